pub mod LineLaws
pub mod PieceLaws
pub mod RowLaws
pub mod TakenPieces
