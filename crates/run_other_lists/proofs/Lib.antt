-- The example of demand 3, by computation.
pub mod OtherListLaws
