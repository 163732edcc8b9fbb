-- Receivers of segments of cells.
pub mod Runs
