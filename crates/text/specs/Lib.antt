pub mod Ascii
pub mod Utf8
pub mod Bad
pub mod Worked
