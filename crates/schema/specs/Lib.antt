-- The definitions that the contracts of `schema` cite.
pub mod Flattens
