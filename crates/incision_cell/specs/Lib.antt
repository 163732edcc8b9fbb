-- The incision of one cell.
pub mod Cut
