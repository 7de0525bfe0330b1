pub mod Table
pub mod Walk
pub mod Builder
pub mod Worked
pub mod Bad
pub mod Inserted
