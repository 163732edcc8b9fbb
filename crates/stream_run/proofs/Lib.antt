-- Laws of running a stream.
pub mod AskedLaws
pub mod ReadLaws
pub mod ReliefLaws
pub mod LongLaws
