-- Laws of rows of receivers.
pub mod DiscovererLaws
pub mod RowLaws
