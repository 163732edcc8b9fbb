-- The square root of document 01, and what it means that a float is the nearest one to a root.
pub mod Root
pub mod Rooted
pub mod Inner
