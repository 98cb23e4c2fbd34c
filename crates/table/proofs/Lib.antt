-- The laws that the proofs of `table`, and of its callers, lean on.
pub mod Held
pub mod Edited
pub mod Says
pub mod Numbers
pub mod OfKinds
pub mod Entries
pub mod Look
pub mod NewEntries
pub mod Types
pub mod Opening
pub mod Places
pub mod Given
pub mod TakingWhile
pub mod Fits
pub mod Pouring
