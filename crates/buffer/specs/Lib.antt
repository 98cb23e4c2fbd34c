-- The definitions that the contracts of `buffer` cite.
pub mod Buffer
pub mod Refusals
pub mod Puts
pub mod Leaves
