-- The definitions that the contracts of `emit` cite.
pub mod Survivor
pub mod Emission
