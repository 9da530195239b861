pub mod Rows
pub mod Texts
pub mod Write
pub mod Cells
pub mod TextKeys
pub mod TextLaws
pub mod Indexes
