-- What the code of a run keeps of its state, and what a whole-run call ends with.
pub mod Reached
pub mod Ending
