pub mod Back
pub mod ComesBack
pub mod CommentsRight
pub mod NodesRight
pub mod PeopleRight
pub mod RowsRight
pub mod Said
