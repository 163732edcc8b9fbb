-- Laws of the definitions in specs/.
pub mod SidesLaws
pub mod ShiftedLaws
pub mod NeighbourLaws
pub mod ReachLaws
pub mod HeightsLaws
pub mod WalkLaws
pub mod BaseLaws
