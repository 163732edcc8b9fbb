-- Laws of receivers by offsets, in runs of cells and in blocks.
pub mod OffsetLaws
pub mod RunLaws
pub mod BlockLaws
