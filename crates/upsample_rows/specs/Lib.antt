-- Where the columns of a map lie on the reduced grid, and the values there in two of its rows.
pub mod Rows
