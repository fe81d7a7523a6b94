pub mod Keeps
pub mod Wrapped
pub mod Reached
