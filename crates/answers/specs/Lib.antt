-- What an answer means, in the numbers of documents 01 and 02.
pub mod Outcome
