pub mod Views
pub mod Turns
pub mod Edits
pub mod Houses
pub mod Closing
pub mod Working
