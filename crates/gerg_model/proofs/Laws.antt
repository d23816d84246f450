-- The first place that a test holds of, what a list that passed has, and the numbers of the answers.
pub mod First
pub mod Accepted
pub mod Numbers
