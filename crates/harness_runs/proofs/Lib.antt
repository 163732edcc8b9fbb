-- From a run's answer to its word.
pub mod EndLaws
