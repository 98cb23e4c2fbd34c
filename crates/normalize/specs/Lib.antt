-- The definitions that the contracts of `normalize` cite.
pub mod Expands
