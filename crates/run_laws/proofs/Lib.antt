mod Reading
pub mod Completing
pub mod Servers
