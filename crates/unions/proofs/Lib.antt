-- The laws that the proofs of `unions` lean on.
pub mod Search
pub mod Walk
pub mod Ends
