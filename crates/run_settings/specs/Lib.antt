-- Settings of whole runs and what a whole run refuses.
pub mod Refusals
pub mod Accepted
