-- `elementary_sqrt::sqrt::sqrt` meets its contract: the tests on each way, and the bounds of a positive double's pattern. Assumes nothing.
use native.Mathlib.Omega.{arith}
use mathlib.Core.Path.{sym, subst}
use lib.Dec.{T}
use Rattle.numerics.specs.Patterns.{pattern_pos, pattern_below}
use Rattle.numerics.specs.Literals.{zero_over_zero, no_nan}
use Rattle.numerics.specs.Order.{positive_of_tests}
use Rattle.elementary_sqrt.specs.Sqrt.{sqrt_of}
use Rattle.elementary_sqrt.proofs.sqrt.sqrt.Goals as goal

pub root_bits-requires : goal.root_bits-requires
root_bits-requires c =
    let f = subst T (sym c.well_formed.0.1) tt in
    let p = positive_of_tests _ c.if-x.true in
    let h = pattern_below _ f p in
    (pattern_pos _ f p, omega arith)

pub float_from_bits-result : goal.float_from_bits-result
float_from_bits-result c = let h = c.root_bits.ensures.1 in no_nan _ (omega arith)

pub returns-then-x : goal.returns-then-x
unfolding sqrt_of
returns-then-x c = rw (c.if-x.true, c.root_bits.ensures.0)

pub returns-then-x-2 : goal.returns-then-x-2
unfolding sqrt_of
returns-then-x-2 c = rw (c.if-x.false, c.if-x-2.true)

pub returns : goal.returns
unfolding sqrt_of
returns c = rw (zero_over_zero, c.if-x.false, c.if-x-2.false)
