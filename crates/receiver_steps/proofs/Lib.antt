-- Laws of a step's distance, place and number.
pub mod DistanceLaws
pub mod PlaceLaws
pub mod StepLaws
