pub mod Header
pub mod Answer
pub mod Worked
