-- The terms of the nine derivatives and their sums.
pub mod Terms
