-- Document 01, 'Whole runs': what gen_fluvial_erosion promises.
pub mod FluvialRun
