-- What the coefficient file holds, which files are accepted, and the tables of an accepted one.
pub mod Load
pub mod Filling
pub mod Answer
pub mod TableFile
