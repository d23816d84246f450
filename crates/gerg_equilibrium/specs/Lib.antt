-- The calls `outer_roots` and `pure_saturation`: what each answers and writes.
pub mod Equilibrium
