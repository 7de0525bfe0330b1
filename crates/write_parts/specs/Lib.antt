pub mod Numbered
pub mod Slot
