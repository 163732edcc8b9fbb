-- How slices hold the state of the flood, and its first state.
pub mod Slices
