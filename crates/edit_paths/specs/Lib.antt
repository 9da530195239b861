pub mod Media
pub mod Paired
pub mod Routes
