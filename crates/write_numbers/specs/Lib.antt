pub mod Roster
pub mod Fill
