pub mod AccessResult
pub mod Reason
pub mod Verdict
