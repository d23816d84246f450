-- A step after an answer, a crossing halved, the scan over the grid, and what a refused one leaves.
pub mod Sample
pub mod Answers
pub mod Halving
pub mod Scan
pub mod Left
