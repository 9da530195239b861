pub mod Apart
pub mod Ascending
pub mod CellLemmas
pub mod GrantLemmas
pub mod Ids
pub mod MenuWalk
pub mod Names
pub mod StarterLemmas
