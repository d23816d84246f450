-- What holds of every search, and the numbers of its answers.
pub mod Trial
pub mod Verdict
pub mod Turn
pub mod Numbers
pub mod Cases
pub mod Inside
