-- Laws of what a run has reached, and of its answer.
pub mod ReachedLaws
pub mod EndingLaws
pub mod LoopLaws
pub mod ReducedLaws
pub mod WholeLaws
pub mod GridLaws
