-- Definitions that all loops share: states, first failures, counts and sums.
pub mod Loops
pub mod Firsts
pub mod Counts
