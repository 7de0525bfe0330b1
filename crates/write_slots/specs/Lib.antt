pub mod NumberedAs
