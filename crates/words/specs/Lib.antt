pub mod Choice
pub mod Below
pub mod Store
pub mod Field
pub mod Align
pub mod Bits
pub mod Worked
