-- What the contracts of `datatype` cite beside the model's definitions.
pub mod Answers
pub mod Children
pub mod Comparisons
