-- The words of the demands about the public calls.
pub mod Promised
