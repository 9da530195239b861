pub mod Cacheability
pub mod Context
pub mod Decimal
pub mod InOrder
pub mod MaxAge
pub mod Name
pub mod NameView
pub mod Tag
