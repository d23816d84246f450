-- The exterior roots of an isotherm: what a root gives, the search and the answer.
pub mod Roots
pub mod SoughtRoots
pub mod Left
