pub mod Items
pub mod Tidy
pub mod Consistent
pub mod Honest
pub mod Reached
