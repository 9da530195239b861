pub mod Listed
pub mod Paging
pub mod MenuPlaces
pub mod Blocks
pub mod Visible
pub mod ListingPlan
pub mod Below
pub mod Chosen
