-- The stand-ins of document 01 and the key by which heights leave the queue.
pub mod Stand
pub mod Key
