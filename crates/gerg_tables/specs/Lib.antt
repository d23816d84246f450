-- The tables, their numbers by name, and the check of row 2.
pub mod Tables
pub mod Check
pub mod Departure
pub mod Lent
