pub mod Brief
pub mod Front
pub mod Keys
pub mod Object
pub mod Reads
