pub mod Entries
pub mod Search
pub mod InBuckets
pub mod Changed
pub mod Walks
pub mod Sizes
