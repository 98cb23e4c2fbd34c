-- The definitions that the contracts of `layout` cite.
pub mod Kinds
