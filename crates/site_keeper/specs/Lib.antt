pub mod Batch
pub mod Keeper
pub mod Memory
pub mod Steps
pub mod Keeping
