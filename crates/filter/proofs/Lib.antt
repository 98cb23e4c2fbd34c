-- The laws that the proofs of `filter` use.
pub mod Walking
pub mod Fields
pub mod Rows
pub mod Types
pub mod Sheets
pub mod Answered
