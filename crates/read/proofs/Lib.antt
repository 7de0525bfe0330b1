pub mod LookupLaws
pub mod SoughtLaws
pub mod LayeredLaws
