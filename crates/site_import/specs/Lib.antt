pub mod Changes
pub mod Export
pub mod Faults
pub mod Full
pub mod Ground
pub mod Imports
pub mod Lines
