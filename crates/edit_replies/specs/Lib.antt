pub mod Bodies
pub mod Fixed
pub mod Texts
