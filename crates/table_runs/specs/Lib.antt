pub mod Leaves
pub mod Tables
