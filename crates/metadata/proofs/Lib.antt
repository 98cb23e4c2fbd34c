-- The laws that the proofs of `metadata`, and of its callers, lean on.
pub mod Texts
pub mod Finding
pub mod Putting
pub mod Pouring
pub mod Heads
pub mod Entries
pub mod Opening
