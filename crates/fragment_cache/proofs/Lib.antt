pub mod Determined
pub mod Fresh
pub mod Seen
pub mod Shelves
