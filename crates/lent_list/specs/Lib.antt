-- Refusal 7 of document 01: what a lent list must be.
pub mod Entries
pub mod Walks
