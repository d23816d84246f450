-- The steps of sqrt, which fix the bits of each answer.
pub mod Sqrt
