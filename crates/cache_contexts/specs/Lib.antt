pub mod Same
pub mod SameLaws
pub mod Values
pub mod LeftOut
pub mod Optimised
