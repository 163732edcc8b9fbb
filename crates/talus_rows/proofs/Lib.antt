-- Laws of talus blocks and rows.
pub mod BlockLaws
pub mod SlideLaws
pub mod PartLaws
pub mod RowLaws
