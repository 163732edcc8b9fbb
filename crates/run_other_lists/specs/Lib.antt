-- Demand 3 on a map whose inner cells drain one into the other.
pub mod OtherLists
