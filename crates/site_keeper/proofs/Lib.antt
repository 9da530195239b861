pub mod Turns
pub mod Stepping
pub mod Counting
pub mod Keeping
