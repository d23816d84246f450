-- Saturation: what is tested first, what one or two roots tell, the halvings, what a search answers.
pub mod Answer
pub mod Checks
pub mod Coexistence
pub mod Halvings
