-- Document 01, 'The stream': the bytes that come in.
pub mod Stream
