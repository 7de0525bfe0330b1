pub mod CompareLaws
pub mod OrderLaws
pub mod PrefixLaws
