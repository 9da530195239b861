pub mod Apart
pub mod Staying
pub mod Warmed
