pub mod Bodies
pub mod Commands
pub mod Digits
pub mod Keys
