-- Refusal 6 of document 01: what lent receivers must be.
pub mod Receivers
