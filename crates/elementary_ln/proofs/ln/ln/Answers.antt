-- `elementary_ln::ln::ln` meets its contract. Assumes nothing.
use mathlib.Core.Path.{sym, subst, ◌∙◌}
use lib.Dec.{T}
use lib.Ieee.{binary64, fits}
use lib.Ieee.Positive.{positive}
use Rattle.elementary_ln.specs.Ln.{ln_of}
use Rattle.numerics.specs.Patterns.{positive_tested, positive_number, pattern_pos, pattern_below}
use Rattle.numerics.specs.Literals.{zero_over_zero, one_over_zero, minus_one_over_zero}
use Rattle.elementary_ln.proofs.ln.ln.Goals as goal

-- what owning an `f64` tells: the format holds it
held : (c : goal.Else-x-3) → T (fits binary64 c.args.x)
held c = subst T (sym c.well_formed.0.1) tt

-- what passes the three tests is positive and finite
tested : (c : goal.Else-x-3) → T (positive c.args.x)
tested c = positive_tested c.args.x c.if-x.true c.if-x-2.false (rw one_over_zero at c.if-x-3.false)

pub returns-then-x-2 : goal.returns-then-x-2
unfolding ln_of
returns-then-x-2 c = minus_one_over_zero ∙ rw (c.if-x.true, c.if-x-2.true)

pub returns-then-x-3 : goal.returns-then-x-3
unfolding ln_of
returns-then-x-3 c = rw (c.if-x.true, c.if-x-2.false, rw one_over_zero at c.if-x-3.true)

pub float_to_bits-x : goal.float_to_bits-x
float_to_bits-x c = positive_number c.args.x (tested c)

pub ln_pattern-requires : goal.ln_pattern-requires
ln_pattern-requires c = record { b_nonzero = pattern_pos c.args.x (held c) (tested c); b_bound = pattern_below c.args.x (held c) (tested c) }

pub returns-then-x : goal.returns-then-x
unfolding ln_of
returns-then-x c = c.ln_pattern.ensures ∙ rw (c.if-x.true, c.if-x-2.false, rw one_over_zero at c.if-x-3.false)

pub returns : goal.returns
unfolding ln_of
returns c = zero_over_zero ∙ rw c.if-x.false
