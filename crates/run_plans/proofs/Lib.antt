-- Laws of plans and of the refusals of whole runs.
pub mod InputLaws
