pub mod Write
pub mod Empty
pub mod Answer
pub mod When
