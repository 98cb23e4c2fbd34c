-- The definition that the contracts of `exports` cite.
pub mod Told
