-- Laws of the writer.
pub mod OutputLaws
pub mod WriterLaws
