-- The output of document 01.
pub mod Output
