-- Laws of the definitions in specs/.
pub mod IndependenceLaws
pub mod CellLaws
pub mod WaysLaws
pub mod RefusalLaws
