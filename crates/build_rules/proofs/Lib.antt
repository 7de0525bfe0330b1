pub mod ValidLaws
pub mod ValidFacts
