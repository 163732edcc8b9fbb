-- Laws of gen_fluvial_erosion.
pub mod RunLaws
