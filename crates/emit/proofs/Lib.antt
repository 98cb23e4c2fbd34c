-- The laws that the proofs of `emit` use.
pub mod Fronts
pub mod Putting
pub mod Copies
pub mod Heads
pub mod Survivors
pub mod Members
pub mod Types
pub mod Rows
pub mod Sheets
