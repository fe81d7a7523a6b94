pub mod Call
pub mod LeastType
pub mod Listed
pub mod Premises
pub mod Marked
pub mod Laws
pub mod Code
pub mod Terms
