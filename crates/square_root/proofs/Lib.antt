-- Laws of the definitions in specs/.
pub mod WholeLaws
pub mod NewtonLaws
pub mod BitsLaws
pub mod RootLaws
pub mod FloatLaws
