-- What holds of every search, whatever the verdicts of its trials.
pub mod Laws
pub mod Size
