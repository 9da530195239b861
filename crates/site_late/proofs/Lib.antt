pub mod Told
pub mod Joining
pub mod Statuses
pub mod Seen
mod Making
pub mod Templates
mod Sends
mod Replied
