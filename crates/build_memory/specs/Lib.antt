pub mod Memory
pub mod Find
pub mod Item
pub mod Meaning
pub mod Answer
