pub mod Spaces
pub mod Stored
