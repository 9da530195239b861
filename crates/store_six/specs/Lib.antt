pub mod At
pub mod Calls
pub mod Tables
