use native.Mathlib.Omega.{arith}
use borrow.Author.Tests.{eq-eqb, ne_eqb}
use mathlib.Core.Path.{sym, ◌∙◌}
use Rattle.elementary.specs.Power.{power_of}
use Rattle.elementary.proofs.PowerSteps.{power_ends, power_turn}
use Rattle.elementary.proofs.power.power.Goals as goal
use Rattle.elementary.proofs.power.power.Goals.{then-m-eq1, else-m-eq1}

pub loop-m-preserved : goal.loop-m-preserved
loop-m-preserved c =
    let t = c.loop-m in
    let turn = sym (power_turn t.r t.b t.m t.invariant.0) ∙ t.invariant.1 in (
      omega arith,
      elim c.if-m-eq1.branch [ then-m-eq1 w ↦ rw w.r-is (rw (eq-eqb _ _ w.if-m-eq1.true) at turn) | else-m-eq1 w ↦ rw w.r-is (rw (ne_eqb _ _ w.if-m-eq1.false) at turn) ],
    )

pub returns : goal.returns
unfolding power_of
returns c = let t = c.loop-m in sym (power_ends 32 t.r t.b) ∙ rw c.loop-m-test.false at t.invariant.1
