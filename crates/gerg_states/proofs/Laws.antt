-- Laws of the counts of a run, and of the numbers that are counted.
pub mod Counts
pub mod Numbers
