pub mod Asked
pub mod Warm
