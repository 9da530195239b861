pub mod Viewers
