mod Places
mod Served
mod Openings
pub mod Writes
mod Warmings
