-- Marks of the cells that stood in a list already.
pub mod Seen
