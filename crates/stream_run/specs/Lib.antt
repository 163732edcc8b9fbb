-- A stream run, and its output.
pub mod StreamRun
