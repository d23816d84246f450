-- What holds of every search, whatever the verdicts of its trials.
pub mod Differ
pub mod Shrink
pub mod Neighbours
pub mod Verdicts
pub mod Inner
pub mod Ended
pub mod Bound
pub mod Start
pub mod Course
pub mod Whole
pub mod Ahead
pub mod Standing
pub mod Outcomes
