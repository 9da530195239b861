pub mod Faults
pub mod Texts
pub mod Ground
pub mod Jobs
