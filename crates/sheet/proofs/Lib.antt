-- What the proofs of several functions use.
pub mod Ways
pub mod Pairs
pub mod ParamWays
pub mod TreeWays
pub mod Members
pub mod Reading
