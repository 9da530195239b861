pub mod Stations
pub mod Serving
pub mod Working
