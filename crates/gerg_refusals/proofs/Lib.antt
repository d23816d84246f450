-- What a number and a value tell of a refusal.
pub mod Told
pub mod Then
