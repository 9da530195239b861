pub mod Ends
pub mod Splits
