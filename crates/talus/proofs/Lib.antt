-- Laws of talus on cells and rows.
pub mod CountedLaws
pub mod StepLaws
pub mod CellLaws
pub mod RowLaws
pub mod TalusLaws
