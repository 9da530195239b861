pub mod History
pub mod House
pub mod Bins
