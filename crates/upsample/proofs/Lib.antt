-- Laws of the definitions in specs/.
pub mod FiniteLaws
pub mod RowLaws
pub mod SumLaws
pub mod AddLaws
