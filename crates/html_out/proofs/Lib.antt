pub mod Front
pub mod Inert
pub mod Runs
