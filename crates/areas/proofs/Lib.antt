-- Laws of the definitions in specs/.
pub mod SumLaws
pub mod WordLaws
