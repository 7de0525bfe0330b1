pub mod Listing
pub mod Children
pub mod Answer
pub mod Bad
pub mod Forms
pub mod FormsBy
