pub mod Tally
pub mod Key
