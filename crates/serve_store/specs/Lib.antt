pub mod Texts
pub mod Stations
pub mod Warming
pub mod Job
