-- `elementary_exp::exp::exp` meets its contract: each way out is the one that the same tests choose in the definition.
use Rattle.std.proofs.Common.{sym, ◌∙◌}
use Rattle.numerics.specs.Literals.{zero_over_zero, one_over_zero}
use Rattle.elementary_exp.specs.Exp.{exp_of}
use Rattle.elementary_exp.proofs.ExpLaws.{exp_above, exp_below}
use Rattle.elementary_exp.proofs.ExpTests.{in_range}
use Rattle.elementary_exp.proofs.exp.exp.Goals as goal

pub returns-then-x : goal.returns-then-x
unfolding exp_of
returns-then-x c = rw c.if-x.true zero_over_zero

pub returns-then-x-2 : goal.returns-then-x-2
returns-then-x-2 c = one_over_zero ∙ sym (exp_above c.args.x c.if-x-2.true)

pub returns-then-x-3 : goal.returns-then-x-3
returns-then-x-3 c = sym (exp_below c.args.x c.if-x-3.true)

pub returns-then-x-4 : goal.returns-then-x-4
unfolding exp_of
returns-then-x-4 c = rw (c.if-x.false, c.if-x-2.false, c.if-x-3.false, c.if-x-4.true)

pub within-requires : goal.within-requires
within-requires c = in_range c.args.x c.if-x.false c.if-x-2.false c.if-x-3.false c.if-x-4.false

pub returns : goal.returns
unfolding exp_of
returns c = rw (c.if-x.false, c.if-x-2.false, c.if-x-3.false, c.if-x-4.false) c.within.ensures
