pub mod Escape
pub mod Part
pub mod Segment
