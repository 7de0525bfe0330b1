pub mod Keys
pub mod Back
pub mod Told
pub mod Sample
pub mod Passing
pub mod Forms
pub mod Alike
pub mod Filter
