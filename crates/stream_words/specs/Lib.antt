-- Numbers of four bytes.
pub mod Words
