pub mod Decided
pub mod Exchanged
pub mod Trees
pub mod Values
pub mod Named
pub mod Replies
