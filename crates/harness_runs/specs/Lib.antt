-- What the exported whole runs promise.
pub mod Exported
