pub mod BoardLaws
pub mod Decisions
pub mod Fields
pub mod Noted
pub mod Run
pub mod Taken
pub mod Timeless
