-- Numbers and marks as bytes.
pub mod Bytes
