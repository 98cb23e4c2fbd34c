-- The definitions that the contracts of `try_merge` cite.
pub mod Claims
