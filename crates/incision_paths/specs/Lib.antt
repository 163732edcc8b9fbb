-- The new heights of cells by their ways down, and the walks along these.
pub mod Settled
pub mod Walk
