pub mod Viewed
