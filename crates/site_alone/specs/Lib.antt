pub mod House
pub mod Sites
