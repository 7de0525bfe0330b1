pub mod Building
pub mod Writing
pub mod Worked
