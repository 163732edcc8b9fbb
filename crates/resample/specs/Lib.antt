-- Document 01, 'Resampling': the working sides and the block average.
pub mod WorkSize
pub mod Blocks
pub mod Places
