-- Laws of marks and segments.
pub mod SeenLaws
