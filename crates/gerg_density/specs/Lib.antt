-- The density search: what is tested first, the next point, one step, the run of steps, the answer, and the words of what every search keeps.
pub mod Trial
pub mod Density
pub mod Running
pub mod Promised
pub mod Arrived
pub mod Cases
