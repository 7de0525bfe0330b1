pub mod HeaderLaws
pub mod HeaderReads
