-- The reducing values of a mixture and their gradients.
pub mod Reducing
pub mod Reduced
pub mod Listed
