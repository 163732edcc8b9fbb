-- Theorems of the definitions in specs/.
pub mod InvariantLaws
pub mod LeaveLaws
pub mod PushLaws
pub mod LeastLaws
pub mod KeptLaws
pub mod StateLaws
pub mod FloodLaws
pub mod NetworkLaws
pub mod GroundLaws
pub mod TrailLaws
pub mod WorkListLaws
pub mod WayLaws
pub mod AreaLaws
