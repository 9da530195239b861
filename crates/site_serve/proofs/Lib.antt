pub mod Mapped
pub mod Over
pub mod Crews
pub mod Shifts
pub mod Together
