-- Laws of the definitions in specs/.
pub mod PlaceLaws
pub mod SettleLaws
pub mod HeightLaws
pub mod MarkLaws
pub mod WalkLaws
