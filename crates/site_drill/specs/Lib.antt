pub mod Fronts
pub mod Lines
pub mod Replies
pub mod Steps
pub mod Stops
pub mod Tally
pub mod Drill
pub mod Fresh
