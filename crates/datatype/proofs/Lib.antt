-- The laws that the proofs of `datatype` and of its callers use.
pub mod Encodings
pub mod Seeks
pub mod Finds
pub mod Texts
pub mod Heads
pub mod Comparisons
pub mod Rows
pub mod Children
pub mod Members
pub mod Types
pub mod Calls
pub mod Nested
