-- Document 01, 'Whole runs': what gen_thermal_erosion promises, and what its parts require.
pub mod ThermalRun
