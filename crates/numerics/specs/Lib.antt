-- Specifications and laws that every other crate cites, by subject; no code runs.
-- ---- THE DEFINITIONS that contracts and promises name
-- short names of the rounded operations
pub mod Double
-- a loop's answer as a function; an array filled by a rule
pub mod Loop
-- the middle of two doubles
pub mod Middle
-- fractions and their order
pub mod Fraction
-- the exact exponential and logarithm: `AboveExp`, `BelowExp`, `Within`, `LnWithin`, `LnNear`
pub mod Exponential
-- the exact power: `AbovePower`, `BelowPower`, `PowerWithin`
pub mod Power
-- the double nearest to a fraction
pub mod Nearest
-- ---- for code
-- what a loop's proof asks of `Loop`
pub mod Iterate
-- what loops keep, and what grows by one a turn
pub mod Growing
pub mod Fill
-- what the last arm of a match on a number knows; a rule of a table's entries by one test
pub mod Match
pub mod Table
-- laws of tests
pub mod Tests
-- the value of a test in a definition, from how a call's result was tested
pub mod CallTests
-- the test for a finite double, NaN as code meets it, and what the quotients of literals are
pub mod Finite
pub mod Nan
pub mod Literals
-- the order of doubles as tests see it
pub mod Order
-- ---- whole numbers
-- polynomial identities and inequalities by computation
pub mod Ring
-- ---- fractions and rounding
-- laws of fractions, and the order up to so many roundings
pub mod Frac
-- the sign of a value, and a rounding that passes it on
pub mod Sign
-- what it says that a format holds a value
pub mod Held
-- a rounded fraction is half a unit away at most
pub mod Round
-- what rounding leaves as it is, and on which side it leaves the rest
pub mod Fixed
-- the laws of rounding over the operation, at any signs
pub mod Rounding
-- the operators on values above zero, and counts of roundings through them
pub mod Rel
-- the same where values may be zero
pub mod Nonneg
-- a positive finite double's value from the fields of its pattern
pub mod Patterns
-- every finite double is a whole number of the smallest one's units
pub mod Units
-- operands of either sign, without a case of signs; whole numbers
pub mod EitherSign
pub mod Exactly
pub mod Whole
-- ---- the exponential's partial sums
-- sums and products of sequences
pub mod Conv
-- partial sums of e ^ a for a ≥ 0, `Above` and `Below`
pub mod Series
-- e ^ (a + b) by partial sums
pub mod Law
-- the tail's bound comes under every fraction
pub mod Limit
-- e ^ u ≤ q e ^ v
pub mod Exp
-- the tail, powers and small exponents in counts of roundings; e ^ a to so many roundings
pub mod Tail
pub mod Bound
-- ---- the exact exponential and logarithm
-- the partial sums at -a enclose 1 / e ^ a
pub mod Alternating
-- ---- polynomials evaluated in doubles
-- fractions over one denominator
pub mod Common
-- polynomials with whole coefficients at a fraction
pub mod Poly
-- Horner's rule with rounding, and its coefficients
pub mod Horner
pub mod Coefs
-- ---- examples of the normaliser and of the bounds
pub mod Examples
-- ---- searches over doubles
-- doubles and zero
pub mod Zero
-- the difference of a double and itself; products of doubles above zero
pub mod ZeroDifference
-- the sign of a rounded (p - q) / c
pub mod Quotient
-- doubles above zero as whole numbers of the smallest, and the gap between two of them
pub mod Spacing
-- a power of two goes through a rounding
pub mod Scaled
-- sums, differences and parts of them, each rounded once
pub mod SpacingRounded
-- what rounding leaves as it is, and the grid that it rounds to
pub mod SpacingGrid
-- the width of two ends, half of it, their middle
pub mod MiddleLaws
-- a middle that is an end leaves no double between the ends
pub mod MiddleEnds
-- a rounded fraction is the nearest double
pub mod NearestLaws
