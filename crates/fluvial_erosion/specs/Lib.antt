-- Document 01, 'Incision', with the refusals of a lent network.
pub mod Incision
pub mod Incise
pub mod Independence
pub mod Along
