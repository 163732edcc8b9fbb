-- Stop marks, the extent of a map, and its normalisation.
pub mod Marks
pub mod Extents
