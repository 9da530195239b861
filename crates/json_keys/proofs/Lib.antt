pub mod Agree
pub mod Held
pub mod Walked
