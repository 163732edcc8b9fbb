-- Laws of the reader.
pub mod RecordLaws
pub mod ReaderLaws
