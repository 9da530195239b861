pub mod Starter
