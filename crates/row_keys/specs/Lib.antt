pub mod Ranks
pub mod Keys
pub mod Exact
pub mod Named
pub mod Spans
