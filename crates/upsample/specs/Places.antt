-- Preconditions of the inner functions.
pub use Rattle.bilinear.specs.Places.{Grid}
