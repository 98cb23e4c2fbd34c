-- The definitions that the contracts of `members` cite.
pub mod Rows
pub mod Claims
