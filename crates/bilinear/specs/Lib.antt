-- Samples between the cells of a grid.
pub mod Samples
pub mod Places
