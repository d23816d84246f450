-- Laws of the exact exponential, logarithm and power that no definition cites. They stand here so that an edit of a definition in specs/ is refused by them.
-- a rounded result is within a unit
pub mod WithinUnit
-- bounds of e ^ x by the two parts of x, for x of either sign: `AtMost`, `AtLeast`
pub mod ExpBounds
-- laws of these bounds
pub mod ExpBoundLaws
pub mod ExpBoundSums
-- laws of the definitions themselves
pub mod ExponentialRoom
pub mod ExponentialLaws
-- ways to show `Within` and `LnWithin`
pub mod Distance
-- the convenient forms are the series with its tail's bound
pub mod Equivalence
-- ways to show `LnNear`
pub mod Logarithm
-- enclosures that antt computes; ln 2 to 110 places
pub mod Eval
-- ---- the exact power
-- order among exponents; bounds of ln x; e ^ s for a small s
pub mod ExponentOrder
pub mod LnBounds
pub mod SmallExponent
-- the exponents that the power's definition has
pub mod PowerExponents
-- what the power means: its laws, by the sign of t, with neither exponential nor logarithm
pub mod PowerLaws
pub mod PowerSigns
pub mod PowerAlgebra
-- ways to show |t ln x| ≤ b
pub mod PowerConditions
-- a power by three steps, each with its distance; with doubles: the argument of the third, and the rounded product that it is
pub mod PowerNear
pub mod PowerArgument
pub mod RoundedProduct
