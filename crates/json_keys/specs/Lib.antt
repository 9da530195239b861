pub mod Checked
pub mod Fault
pub mod Form
pub mod Order
pub mod Words
