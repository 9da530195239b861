pub mod Tests
pub mod Optimised
pub mod LeftOut
