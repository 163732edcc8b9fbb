-- Laws of the rows.
pub mod RowLaws
pub mod CellLaws
