pub mod Bits
pub mod Rules
pub mod Broken
pub mod Survey
pub mod Answer
