-- Laws of inner cells.
pub mod InnerLaws
pub mod SignedLaws
