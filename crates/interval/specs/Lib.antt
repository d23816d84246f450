-- The middle of an interval, and the interval that a point leaves.
pub mod Interval
