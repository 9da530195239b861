pub mod Houses
pub mod Went
pub mod Needed
pub mod Joins
pub mod Wholes
pub mod Compact
pub mod Lasting
pub mod Held
