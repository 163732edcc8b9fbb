-- Laws of the table of rates, and the floor of areas.
pub mod TableLaws
pub mod FloorLaws
