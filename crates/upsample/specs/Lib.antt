-- The reduced grid added back to the full one.
pub mod Samples
pub mod Places
