-- Laws of reaching.
pub mod ReachLaws
pub mod FoundLaws
pub mod ByLaws
