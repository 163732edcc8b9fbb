-- Distances to neighbours.
pub mod Distances
