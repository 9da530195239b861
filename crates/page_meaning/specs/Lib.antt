pub mod Lazy
pub mod Meaning
pub mod Total
