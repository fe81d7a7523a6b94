pub mod Known
pub mod Partnering
pub mod Naming
pub mod Noting
pub mod Feeding
mod Walking
