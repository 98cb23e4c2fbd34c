-- What the contracts of `unions` cite beside the model's definitions.
pub mod Answers
pub mod Seen
