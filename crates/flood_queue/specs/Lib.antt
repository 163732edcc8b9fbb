-- The queue of the flood: a scan of sorted cells and a heap.
pub mod Scans
