-- A routing and the incision along it.
pub mod Carve
