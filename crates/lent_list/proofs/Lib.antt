-- Laws of the definitions in specs/.
pub mod ListLaws
pub mod SegmentLaws
pub mod BlockLaws
