pub mod Framed
pub mod Found
pub mod Walk
pub mod Packed
pub mod RepeatedNames
pub mod Listing
