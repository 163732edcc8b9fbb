-- Document 01, 'Network', as definitions that compute, and the theorems about them.
pub mod Ground
pub mod Flood
pub mod Receivers
pub mod Ways
pub mod Routing
pub mod Chains
pub mod Theorems
pub mod Grids
