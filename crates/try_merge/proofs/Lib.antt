-- The laws that the proofs of `try_merge` lean on.
pub mod Sheets
pub mod Trains
pub mod Calls
