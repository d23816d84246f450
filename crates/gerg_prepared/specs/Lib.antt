-- Rows 1 to 5 and the model of a mixture that passes them.
pub mod Mixed
