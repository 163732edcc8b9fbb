-- What inner cells of a row lose, and what their neighbours gain.
pub mod Parts
