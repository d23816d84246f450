-- What the demands promise of the public calls, and the proved cases.
pub mod Promises
pub mod Cases
