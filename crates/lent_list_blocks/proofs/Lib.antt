-- Laws of blocks.
pub mod ListedLaws
