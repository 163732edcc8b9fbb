-- What a fluvial run on its working grid requires.
pub mod Grids
