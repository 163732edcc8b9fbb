-- Document 01, 'Whole runs' and 'The other run of demand 3'.
pub mod Plan
pub mod Machine
pub mod Run
pub mod Nested
pub mod Demand3
pub mod Sample
pub mod Examples
