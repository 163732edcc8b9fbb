-- Laws of marks and of bytes written.
pub mod MarkLaws
pub mod PutLaws
