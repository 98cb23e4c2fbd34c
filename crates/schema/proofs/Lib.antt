-- What the proofs of several functions use.
pub mod Names
pub mod Writing
pub mod Walked
pub mod Answered
