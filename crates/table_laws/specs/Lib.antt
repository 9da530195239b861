pub mod Ids
pub mod Moments
pub mod Schema
pub mod Stored
