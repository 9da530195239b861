pub mod Back
pub mod CellTexts
pub mod Distinct
pub mod Told
pub mod Wholes
