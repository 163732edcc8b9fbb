-- The result of the flood on slices, and what a cell that leaves does to them.
pub mod Slices
pub mod Steps
