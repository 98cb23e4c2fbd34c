-- The laws that the proofs of `members` lean on.
pub mod Members
pub mod Searching
pub mod Merging
pub mod Opening
pub mod Unions
