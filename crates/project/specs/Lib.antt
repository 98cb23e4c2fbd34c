-- The definitions that the contracts of `project` cite.
pub mod Answers
pub mod Seen
pub mod Table
