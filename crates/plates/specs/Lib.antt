-- Document 01, 'Plates on the wall', and worked examples of document 02.
pub mod Plates
pub mod Examples
