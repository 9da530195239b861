pub mod Entries
pub mod Cost
pub mod Counted
pub mod Steps
pub mod Logs
pub mod Owners
pub mod Covered
pub mod Parents
