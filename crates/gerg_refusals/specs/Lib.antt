pub mod Refusal
pub mod Text
pub mod Answer
pub mod Code
