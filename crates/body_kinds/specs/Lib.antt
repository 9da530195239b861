pub mod Bodies
pub mod SetRows
pub mod Tables
pub mod Written
