-- Laws of gen_thermal_erosion.
pub mod SlideLaws
pub mod RunLaws
