pub mod Ordered
pub mod Sides
pub mod Plain
pub mod Steps
pub mod Value
pub mod Taken
pub mod Laws
