use mathlib.Core.Path.{sym, ap, ◌∙◌}
use Rattle.std.specs.Prelude.{Ok}
use Rattle.gerg_saturation.proofs.Laws.Halvings.{done, ended, again}
use Rattle.gerg_ph.proofs.saturation.halvings.Goals as goal

pub returns-then-ends_at : goal.returns-then-ends_at
returns-then-ends_at c = ended _ _ _ _ _ _ c.loop-k.invariant c.loop-k-test.true _ _ _ c.middle-x.ensures c.verdict_at.ensures c.counted-trials.ensures _ (c.in_ok-s.was ∙ ap Ok c.in-Apart.is) (sym c.ends_at.ensures ∙ c.if-ends_at.true)

pub loop-k-preserved : goal.loop-k-preserved
loop-k-preserved c = again _ _ _ _ _ _ c.loop-k.invariant c.loop-k-test.true _ _ _ c.middle-x.ensures c.verdict_at.ensures c.counted-trials.ensures _ _ (c.in_ok-s.was ∙ ap Ok c.in-Apart.is) (sym c.ends_at.ensures ∙ c.if-ends_at.false) c.narrowed-b.ensures

pub returns : goal.returns
returns c = done _ _ _ _ _ _ c.loop-k.invariant c.loop-k-test.false
