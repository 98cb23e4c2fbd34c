pub mod Answers
pub mod Keys
pub mod Shapes
pub mod Calls
