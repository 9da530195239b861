pub mod Determined
pub mod Fresh
pub mod Bins
