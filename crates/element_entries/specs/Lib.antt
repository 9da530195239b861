pub mod Readers
pub mod Keys
pub mod Keeping
pub mod Leaving
pub mod Making
pub mod Laws
pub mod Standing
