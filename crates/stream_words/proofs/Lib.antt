-- Laws of the words.
pub mod WordLaws
