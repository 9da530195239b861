pub mod Telling
pub mod Joining
pub mod Standing
pub mod Texts
pub mod OfPage
mod Pieces
mod Noting
