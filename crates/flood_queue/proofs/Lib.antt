-- Laws of the scan and its heap.
pub mod ListedLaws
pub mod ScanLaws
pub mod BeginLaws
