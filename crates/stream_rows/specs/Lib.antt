-- Document 01, 'The stream': the rows that come in.
pub mod Rows
