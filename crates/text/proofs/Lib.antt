pub mod Utf8Laws
pub mod Utf8Parts
pub mod BadLaws
pub mod AsciiLaws
