pub mod Visitors
pub mod Seats
pub mod Acts
pub mod Framing
pub mod Building
pub mod Keeping
pub mod Rehearsed
pub mod Counted
