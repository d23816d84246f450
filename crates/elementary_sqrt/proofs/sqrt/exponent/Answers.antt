-- `elementary_sqrt::sqrt::exponent` meets its contract, by the test of each way. Assumes nothing.
use native.Mathlib.Omega.{arith}
use borrow.Author.Tests.{lt-ltb, le-ltb}
use Rattle.elementary_sqrt.specs.Sqrt.{exponent_of}
use Rattle.elementary_sqrt.proofs.sqrt.exponent.Goals as goal

pub returns-then-b-lt4503599627370496 : goal.returns-then-b-lt4503599627370496
unfolding exponent_of
returns-then-b-lt4503599627370496 c = rw (lt-ltb _ _ c.if-b-lt4503599627370496.true) (omega arith)

pub returns : goal.returns
unfolding exponent_of
returns c = rw (le-ltb _ _ c.if-b-lt4503599627370496.false) (omega arith)
