-- Laws of the flood on slices.
pub mod RunLaws
