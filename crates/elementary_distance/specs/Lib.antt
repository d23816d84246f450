-- The distances of the elementary functions from the exact values, stated beside each other. proofs/Theorems.antt has the theorems.
pub mod Distances
