pub mod Apply
pub mod Edits
