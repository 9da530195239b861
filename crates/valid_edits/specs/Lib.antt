pub mod Holders
pub mod Named
pub mod Fits
