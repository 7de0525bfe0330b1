pub mod Plain
pub mod Unique
pub mod HoldsLaws
pub mod LayeredLaws
pub mod ThroughLaws
