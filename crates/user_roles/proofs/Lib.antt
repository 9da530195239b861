pub mod Digest
pub mod InOrder
pub mod Permitting
