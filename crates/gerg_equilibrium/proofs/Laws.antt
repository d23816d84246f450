-- What rows 1 to 5 carry to each call.
pub mod Carried
