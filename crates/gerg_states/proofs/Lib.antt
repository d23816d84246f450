-- What the layers above use of a run.
pub mod Laws
pub mod Promises
