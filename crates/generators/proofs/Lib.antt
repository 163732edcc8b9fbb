-- Laws of the stop marks and of extents, for the layers above.
pub mod MarksLaws
pub mod ExtentsLaws
pub mod NormalizeLaws
