-- The definitions that the contracts of `line` cite.
pub mod Exits
pub mod Prints
