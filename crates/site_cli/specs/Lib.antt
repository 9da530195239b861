pub mod Words
pub mod Run
pub mod Outside
pub mod Load
pub mod Jobs
pub mod Serving
pub mod Drilling
