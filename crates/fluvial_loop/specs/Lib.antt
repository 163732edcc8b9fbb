-- The loops of a fluvial run.
pub mod Loops
