pub mod Keeper
pub mod Lines
pub mod NoFloats
