-- The density search over any verdicts: what is tested first, the next point, one step, the run of steps, and its states.
pub mod Checks
pub mod Point
pub mod Stop
pub mod Sample
pub mod Steps
pub mod Run
pub mod States
