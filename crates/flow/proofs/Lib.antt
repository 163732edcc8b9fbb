-- Laws of the public call, and what the theory gives it.
pub mod NetLaws
pub mod RouteLaws
