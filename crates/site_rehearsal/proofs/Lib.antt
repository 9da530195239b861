pub mod Drafts
pub mod Builds
pub mod Frames
pub mod Moving
pub mod Leaving
pub mod Behind
pub mod Turns
pub mod Counted
