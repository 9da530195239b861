pub mod Board
pub mod Canvas
pub mod Decision
pub mod Finished
pub mod Reads
