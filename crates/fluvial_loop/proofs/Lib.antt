-- Laws of the loops of a fluvial run.
pub mod SlideLaws
pub mod IterateLaws
