pub mod Reading
pub mod Checking
pub mod Worked
pub mod Header
pub mod Manner
