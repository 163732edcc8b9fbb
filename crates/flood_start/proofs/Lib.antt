-- Laws of the first state of the flood.
pub mod RowLaws
pub mod StartLaws
