-- Laws of a talus pass and of its thresholds.
pub mod PassLaws
pub mod SlideLaws
pub mod ThresholdLaws
pub mod SamePassLaws
