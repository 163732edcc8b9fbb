-- Laws of the definitions in specs/.
pub mod RefusalLaws
pub mod BlockLaws
pub mod WorkLaws
pub mod SumLaws
pub mod FillLaws
