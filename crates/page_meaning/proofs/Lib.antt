pub mod Frames
pub mod Answering
pub mod Totality
