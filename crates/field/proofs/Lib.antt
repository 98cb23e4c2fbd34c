-- The laws that the proofs of `field` lean on.
pub mod Flags
pub mod Orders
pub mod Equal
pub mod Fields
pub mod Types
pub mod Lists
pub mod Structs
pub mod Rows
pub mod Pouring
