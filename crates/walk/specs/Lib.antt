-- What the contracts of `walk` cite beside the model's definitions.
pub mod Stands
pub mod Widths
