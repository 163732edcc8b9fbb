-- Drainage areas along a list, and words that hold an area and the step to a receiver.
pub mod Sums
pub mod Words
