pub mod Walk
pub mod Insert
pub mod Answer
pub mod Bad
