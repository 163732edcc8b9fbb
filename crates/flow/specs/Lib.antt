-- What the public call `route` answers and leaves in its slices.
pub mod Route
