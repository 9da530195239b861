pub mod Added
pub mod Alone
pub mod Found
pub mod Routed
pub mod Texts
