-- The laws that the proofs of `walk` and of its callers use.
pub mod Standing
pub mod Parts
pub mod Descents
pub mod Turns
pub mod Trees
pub mod Nested
pub mod Schemas
pub mod Passed
