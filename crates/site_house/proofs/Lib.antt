pub mod Moving
pub mod Histories
