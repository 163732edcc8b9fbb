-- Laws of the opening of an iteration.
pub mod OpeningLaws
