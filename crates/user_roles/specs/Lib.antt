pub mod Csrf
pub mod Permitted
