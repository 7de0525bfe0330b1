pub mod Same
pub mod Words
pub mod Reading
pub mod Building
pub mod Answers
pub mod Outside
pub mod Views
pub mod Asks
