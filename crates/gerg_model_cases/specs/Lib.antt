-- The tables of document 01's cases.
pub mod Cases
