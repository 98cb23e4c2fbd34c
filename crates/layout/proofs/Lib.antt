-- What the proofs of the look-ups use.
pub mod Tables
pub mod Plain
