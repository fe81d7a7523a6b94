pub mod Ways
pub mod Walks
pub mod Laws
