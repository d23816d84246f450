-- By what numbers a scan refuses.
pub mod Laws
