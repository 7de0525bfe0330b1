pub mod One
pub mod Asks
