-- The states of a seed, and how many of a run `properties` refuses under each number.
pub mod States
pub mod Prepared
