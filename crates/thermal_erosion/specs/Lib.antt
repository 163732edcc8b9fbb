-- Document 01, 'Talus': the pass and its public calls, and document 02, card 5: the pass over eight thresholds.
pub mod SlidePass
pub mod OverPass
pub mod SamePass
