-- The proofs of the distances, each module before those that use it.
-- ---- exp
pub mod ExpParts
pub mod ExpRemainder
pub mod ExpErrors
pub mod ExpGap
pub mod ExpEarlier
pub mod ExpPower
pub mod ExpSum
pub mod ExpFloat
pub mod ExpKept
pub mod ExpBound
pub mod ExpDistance
-- ---- ln
pub mod LnDistanceTwo
pub mod LnDistanceStep
pub mod LnDistancePolynomial
pub mod LnDistanceRatio
pub mod LnDistanceSignificand
pub mod LnDistanceExact
pub mod LnDistanceError
pub mod LnDistanceSum
pub mod LnDistanceParts
pub mod LnDistanceDouble
pub mod LnDistance
-- ---- sqrt
pub mod SqrtRoot
pub mod SqrtUnits
pub mod SqrtNearest
-- ---- powf
pub mod PowfDistance
-- ---- the theorems
pub mod Theorems
-- ---- powf's theorem at work
pub mod PowfExamples
-- ---- what follows of signs and finite answers
pub mod Signs
