-- From the calls' answers to their words, and what a host may read from them.
pub mod WordLaws
pub mod HostLaws
