-- The rate of an incision.
pub mod Rate
