pub mod Partners
pub mod Feeds
pub mod Naming
