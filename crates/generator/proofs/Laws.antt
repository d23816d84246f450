-- Laws of the generator.
pub mod Xor
pub mod Word
pub mod Unit
pub mod Range
pub mod Alone
