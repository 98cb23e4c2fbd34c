-- The definitions that the contracts of `table` cite.
pub mod Held
pub mod Table
pub mod Look
pub mod Says
pub mod Becomes
pub mod Opened
pub mod Edits
pub mod Edited
pub mod Pours
pub mod Row
pub mod Entries
