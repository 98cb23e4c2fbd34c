-- What the contracts of `text` cite beside the model's definitions.
pub mod Text
