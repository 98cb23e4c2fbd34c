-- The definitions that the contracts of `metadata` cite.
pub mod Pairs
pub mod Fields
pub mod Merges
