-- Laws of the incision of a cell.
pub mod CutLaws
