-- Blocks of a list.
pub mod Blocks
