-- The steps of ln, which fix the bits of each answer.
pub mod LnTable
pub mod Ln
