pub mod Seats
pub mod Order
pub mod Bins
