-- The inner cells of a row, in blocks.
pub mod Blocks
