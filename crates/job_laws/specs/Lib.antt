pub mod Complete
pub mod Answers
