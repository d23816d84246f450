use native.Mathlib.Omega.{arith}
use mathlib.Core.Path.{sym}
use Rattle.std.proofs.lemmas.Result.{err_from_is_err_and}
use Rattle.gerg_file.proofs.Chain.{start, go, stop, done}
use Rattle.gerg_file.proofs.records.run.Goals as goal

pub loop-number-init : goal.loop-number-init
loop-number-init g c = λ f h. start f _ _ _ _ (omega arith)

pub returns-in_err-here : goal.returns-in_err-here
returns-in_err-here g c = λ f h.
    let p = err_from_is_err_and c.from_residual.result c.from_residual.ensures.1 in
    rw (p.1, p.2) (sym (stop f _ _ _ c.loop-number-test.true (h _ _ _ c.step.ensures) c.in_err-here.was (c.loop-number.invariant f h)))

pub loop-number-preserved : goal.loop-number-preserved
loop-number-preserved g c = λ f h. go f _ _ _ _ c.loop-number-test.true (h _ _ _ c.step.ensures) c.in_ok-here.was (c.loop-number.invariant f h)

pub returns : goal.returns
returns g c = λ f h. sym (done f _ _ _ (omega arith) (c.loop-number.invariant f h))
