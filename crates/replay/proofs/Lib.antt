-- The laws that the proofs of `Operation::call` and of the functions that read use.
mod Kept
mod Reading
