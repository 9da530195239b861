pub mod Keys
pub mod KeyLaws
pub mod Entries
pub mod Sound
