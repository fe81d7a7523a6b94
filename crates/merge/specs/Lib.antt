pub mod Lists
pub mod Known
pub mod Merge
pub mod Descent
