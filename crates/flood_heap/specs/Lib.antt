-- A heap of cells on a slice.
pub mod Queue
