pub mod CellsFound
pub mod RightRows
pub mod IndexLaws
pub mod WriteCost
pub mod Walked
