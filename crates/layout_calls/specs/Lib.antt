-- Document 01, 'The stream': what the layout engine calls by the C convention.
pub mod Word
