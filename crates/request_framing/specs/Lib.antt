pub mod Gives
pub mod Edits
pub mod Limits
