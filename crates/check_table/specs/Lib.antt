pub mod Sound
pub mod Children
pub mod Forms
pub mod FormsBy
pub mod Strict
pub mod StrictExact
