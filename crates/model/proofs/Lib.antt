pub mod PlacedLaws
pub mod BadLaws
