mod FirstItems
mod FoundAlike
mod Gathered
mod InOrder
pub mod Judged
mod Known
pub mod Ordered
mod Reading
mod Texts
