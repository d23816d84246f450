-- What is promised of `read_list` and `write_list`: refusals and lent memory of each, and the two together with the fractions.
pub mod Reading
pub mod Writing
pub mod Back
