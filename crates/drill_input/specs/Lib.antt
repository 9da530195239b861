pub mod Draws
pub mod Number
pub mod SiteDrawn
pub mod Asked
