pub mod Key
pub mod Fall
pub mod Items
pub mod Chain
