-- Laws of the definitions in specs/, and of the tests by which loops and functions choose.
pub mod TestLaws
pub mod TurnLaws
pub mod LoopLaws
pub mod TableLaws
pub mod FillLaws
pub mod FirstLaws
pub mod PlaceLaws
pub mod RowFillLaws
pub mod CountLaws
