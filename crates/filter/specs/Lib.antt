-- The definitions that the contracts of `filter` cite.
pub mod Filters
