pub mod PartLaws
pub mod FrontLaws
pub mod PassLaws
pub mod SameLaws
