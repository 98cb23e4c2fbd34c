-- The laws about the line that the proofs here and in other crates cite.
pub mod Lines
pub mod Lengths
pub mod Programs
