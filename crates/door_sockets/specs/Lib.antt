pub mod Wire
pub mod Steps
