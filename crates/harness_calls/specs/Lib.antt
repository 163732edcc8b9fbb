-- What the exported calls promise: one word, and what the public call leaves.
pub mod Word
pub mod Reporting
