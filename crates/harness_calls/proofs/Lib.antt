-- From the calls' answers to their words.
pub mod WordLaws
