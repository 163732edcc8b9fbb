-- The grid: its sides, directions, neighbours and base level, and the one definition of 'all heights are finite'.
pub mod Sides
pub mod Directions
pub mod Heights
pub mod Base
pub mod Joined
