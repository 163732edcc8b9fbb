-- Laws of the definitions in specs/.
pub mod FiniteLaws
pub mod ValueLaws
pub mod WholeLaws
pub mod BitsLaws
