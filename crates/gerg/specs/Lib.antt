-- Rows 6 to 12 and the properties of a state, in document 01's order.
pub mod Helmholtz
pub mod Evaluate
pub mod Answered
