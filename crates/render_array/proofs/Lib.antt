pub mod Deeper
pub mod Gathered
pub mod Leaves
pub mod Lists
pub mod MenuLaws
pub mod OnBlank
pub mod Statuses
