-- What a cell that leaves does to its neighbours.
pub mod Reaches
