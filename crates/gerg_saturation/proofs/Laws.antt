-- What ends that enclose are (Verdicts), how an interval of temperatures narrows (Halved) and how many trials that leaves (Bounded), the ways of the code through the halvings (Halvings), what an answer reports (Reported).
pub mod Verdicts
pub mod Halved
pub mod Bounded
pub mod Halvings
pub mod Reported
