pub mod Opened
pub mod Taking
pub mod Turning
pub mod Seating
pub mod Beginning
pub mod Closing
pub mod Words
