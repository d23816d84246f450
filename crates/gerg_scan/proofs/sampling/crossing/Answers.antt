use native.Mathlib.Omega.{arith}
use mathlib.Core.Path.{sym, ap, ◌∙◌}
use Rattle.std.specs.Prelude.{Ok}
use Rattle.std.proofs.lemmas.Result.{err_from_is_err_and}
use Rattle.gerg_scan_steps.proofs.Laws.Loops.{halved_first, halved_more, halved_ended, halved_refused, halved_all}
use Rattle.gerg_scan.proofs.sampling.crossing.Goals as goal

pub loop-init : goal.loop-init
loop-init c = ap Ok c.unhalved_between-h.ensures ∙ halved_first _ _ _ _

pub returns-then-h : goal.returns-then-h
returns-then-h c = rw c.tolerance-tolerance.ensures at (halved_ended _ _ _ _ _ _ c.loop.invariant (omega arith) c.if-h.true)

pub returns-in_err-h : goal.returns-in_err-h
returns-in_err-h c =
    let p = err_from_is_err_and c.from_residual.result c.from_residual.ensures.1 in
    rw (p.1, p.2, ← c.tolerance-tolerance.ensures)
    (halved_refused _ _ _ _ _ _ (halved_more _ _ _ _ _ _ _ c.loop.invariant c.if-h.false (sym c.in_err-h.was ∙ c.tried.ensures ∙ rw (c.sample.ensures, c.middle-rho.ensures))) (omega arith))

pub loop-preserved : goal.loop-preserved
loop-preserved c = halved_more _ _ _ _ _ _ _ c.loop.invariant c.if-h.false (sym c.in_ok-h.was ∙ c.tried.ensures ∙ rw (c.sample.ensures, c.middle-rho.ensures))

pub returns : goal.returns
returns c = rw c.tolerance-tolerance.ensures at (halved_all _ _ _ _ _ _ c.loop.invariant (omega arith))
