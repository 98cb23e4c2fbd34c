-- The laws that the proofs of `normalize` use.
pub mod Names
pub mod Columns
pub mod Fields
pub mod Sheets
