-- `elementary::power::powf_of_ln` meets its contract: the tests on each way. Assumes nothing.
use mathlib.Core.Path.{sym}
use Rattle.numerics.specs.Literals.{zero_over_zero}
use Rattle.elementary.specs.Power.{powf_from}
use Rattle.elementary.proofs.Laws.{powf_from_zero}
use Rattle.elementary.proofs.power.powf_of_ln.Goals as goal

pub returns-then-t : goal.returns-then-t
returns-then-t c = sym (powf_from_zero c.args.x c.args.l c.args.t c.if-t.true)

pub returns-then-x : goal.returns-then-x
unfolding powf_from
returns-then-x c = rw (c.if-t.false, c.if-x.true, c.exp.ensures)

pub returns : goal.returns
unfolding powf_from
returns c = rw (zero_over_zero, c.if-t.false, c.if-x.false)
