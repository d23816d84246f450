-- The steps of the elementary functions, which fix the bits of each answer: the definitions that contracts name.
pub mod Power
pub mod Hyperbolic
