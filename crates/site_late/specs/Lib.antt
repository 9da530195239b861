pub mod Heads
pub mod Making
pub mod Sending
pub mod Parts
pub mod Ready
