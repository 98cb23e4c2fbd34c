-- What the operations of the list are, and what is read of it.
pub mod Calls
pub mod Reads
