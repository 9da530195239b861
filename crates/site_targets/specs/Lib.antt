pub mod Canonical
pub mod Open
pub mod Targets
