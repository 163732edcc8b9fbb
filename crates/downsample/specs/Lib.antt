-- The block average, row by row.
pub mod Firsts
