pub mod Complete
pub mod Served
