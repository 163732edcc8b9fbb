-- The receiver of one cell.
pub mod Passes
