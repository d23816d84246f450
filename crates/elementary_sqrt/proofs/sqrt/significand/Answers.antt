-- `elementary_sqrt::sqrt::significand` meets its contract: a subnormal's digits are moved up by `shift`, and no bit is lost. Assumes nothing.
use native.Mathlib.Omega.{arith}
use borrow.Author.Tests.{lt-ltb, le-ltb}
use Rattle.numerics.specs.Patterns.{highest_bit}
use Rattle.elementary_sqrt.specs.Sqrt.{shift_of, significand_of}
use Rattle.elementary_sqrt.proofs.sqrt.significand.Goals as goal

pub returns-then-b-lt4503599627370496 : goal.returns-then-b-lt4503599627370496
unfolding significand_of shift_of
returns-then-b-lt4503599627370496 c =
    let t = c.if-b-lt4503599627370496.true in
    let l = highest_bit _ c.requires.0 (omega arith) in
    rw (lt-ltb _ _ t, c.shift.ensures.0) (omega arith)

pub returns : goal.returns
unfolding significand_of
returns c = rw (le-ltb _ _ c.if-b-lt4503599627370496.false) (omega arith)
