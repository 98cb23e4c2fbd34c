-- The laws about `specs/` that the proofs here and in other crates cite.
pub mod Pasted
pub mod Room
pub mod Ends
pub mod Puts
