-- The coefficients worked out once, the numbers of the answers, and what is written.
pub mod Worked
pub mod Numbers
pub mod Memory
