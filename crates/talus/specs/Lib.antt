-- Document 01, 'Talus': cells and rows.
pub mod Talus
pub mod Places
