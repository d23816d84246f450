-- What the C exports make of an answer.
pub mod Answers
