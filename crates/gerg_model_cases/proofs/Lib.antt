-- The cases of document 01, proved.
pub mod Cases
