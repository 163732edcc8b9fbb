-- The step from a cell to its receiver.
pub mod Distance
pub mod Step
