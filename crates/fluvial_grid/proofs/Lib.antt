-- Laws of a fluvial run on its working grid.
pub mod GridLaws
