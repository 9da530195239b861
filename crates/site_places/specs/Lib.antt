pub mod Place
pub mod Framing
