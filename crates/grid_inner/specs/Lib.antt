-- The inner cells of a map.
pub mod Inner
