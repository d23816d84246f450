-- The powers of small exponents, the zeros where sums begin, and the case of document 01 on `term`.
pub mod Powers
pub mod Cases
pub mod Zero
