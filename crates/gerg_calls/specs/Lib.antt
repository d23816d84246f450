-- The calls `properties`, `fugacity` and `density`: what each answers and writes.
pub mod Calls
