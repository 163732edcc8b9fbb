-- The opening of an iteration: its question, routing and incision.
pub mod Opening
