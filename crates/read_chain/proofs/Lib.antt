pub mod ChainLaws
pub mod MatchLaws
