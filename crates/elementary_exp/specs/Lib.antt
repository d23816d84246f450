-- The steps of the exponential, which fix the bits of each answer.
pub mod ExpTable
pub mod Exp
pub mod Range
