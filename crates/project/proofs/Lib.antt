-- The laws that the proofs of several functions use.
pub mod Walk
pub mod Places
pub mod Putting
pub mod Ends
