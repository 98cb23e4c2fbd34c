-- The laws that the proofs of `text` lean on.
pub mod Utf8
pub mod Rows
pub mod Words
