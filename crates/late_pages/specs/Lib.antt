pub mod Late
pub mod Needed
pub mod Parts
pub mod Laws
