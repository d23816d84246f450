-- What the proofs of the code share: the components of a list, written fronts, the answers.
pub mod Wrong
pub mod Filled
pub mod Front
pub mod Known
pub mod Writing
pub mod Reading
pub mod Back
-- what the promises share
pub mod Decided
-- the fractions: the nearest doubles, and what rows 3 and 4 say of them
pub mod Nearest
pub mod Within
pub mod Sum
