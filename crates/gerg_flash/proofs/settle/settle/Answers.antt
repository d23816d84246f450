use native.Mathlib.Omega.{arith}
use mathlib.Core.Path.{sym, ap, ◌∙◌}
use Prim.Native.Nat.{◌+◌}
use lib.ListN.{length}
use Rattle.std.proofs.lemmas.Result.{err_from_is_err_and}
use Rattle.gerg_scan_steps.specs.Answers.{leaves}
use Rattle.gerg_root_list.proofs.Laws.Keeping.{kept_first, kept_more, kept_few, kept_refused, kept_all, left_first, left_more, left_refused, left_all}
use Rattle.gerg_flash.specs.SoughtRoots.{root_for}
use Rattle.gerg_flash.proofs.settle.settle.Goals as goal

pub loop-found-init : goal.loop-found-init
loop-found-init c = (omega (arith, ap length c.clear.ensures), kept_first _ _ c.args.scanned.now _ c.clear.ensures, left_first (root_for c.args.sought) c.args.sought.densities.pressure c.args.scanned.now _ c.clear.ensures)

pub keep-requires : goal.keep-requires
keep-requires c = omega (arith, c.loop-found.invariant.0, c.loop-found-test.true, c.deref-found-items.ensures.1)

pub returns-in_err-keep-clause-accepted : goal.returns-in_err-keep-clause-accepted
returns-in_err-keep-clause-accepted c =
    let t = c.loop-found in
    let s = ap (λ z. leaves z c.keep.new.roots.items) (sym c.in_err-keep.was) ∙ c.keep.ensures.accepted in
    let p = err_from_is_err_and c.from_residual.result c.from_residual.ensures.1 in
    rw (p.1, p.2)
    (kept_refused _ _ c.args.scanned.now (t.found-index + 1) _ (omega (arith, c.loop-found-test.true, ap length c.deref-found-items.ensures.0)) (kept_more _ _ c.args.scanned.now t.found-index _ _ t.invariant.1 (rw c.deref-found-items.ensures.0 at s)))

pub returns-in_err-keep-clause-left : goal.returns-in_err-keep-clause-left
returns-in_err-keep-clause-left c =
    let t = c.loop-found in
    let s = ap (λ z. leaves z c.keep.new.roots.items) (sym c.in_err-keep.was) ∙ c.keep.ensures.accepted in
    let e = rw c.deref-found-items.ensures.0 at s in
    c.in_err-keep.ensures.refused ∙ left_refused _ _ c.args.scanned.now t.found-index _ _ (omega (arith, c.loop-found-test.true, ap length c.deref-found-items.ensures.0)) t.invariant.2 e

pub loop-found-preserved : goal.loop-found-preserved
loop-found-preserved c =
    let t = c.loop-found in
    let s = ap (λ z. leaves z c.keep.new.roots.items) (sym c.in_ok-keep.was) ∙ c.keep.ensures.accepted in
    let e = rw c.deref-found-items.ensures.0 at s in
    (omega (arith, t.invariant.0, kept_few (root_for c.args.sought) c.args.sought.densities.pressure c.args.scanned.now t.found-index _ _ e), kept_more _ _ c.args.scanned.now t.found-index _ _ t.invariant.1 e, left_more _ _ c.args.scanned.now t.found-index _ _ (omega (arith, c.loop-found-test.true, ap length c.deref-found-items.ensures.0)) t.invariant.2 e)

pub returns-clause-accepted : goal.returns-clause-accepted
returns-clause-accepted c =
    let t = c.loop-found in
    kept_all _ _ c.args.scanned.now t.found-index _ t.invariant.1 (omega (arith, c.loop-found-test.false, t.auto.found-index-end, ap length c.deref-found-items.ensures.0))

pub returns-clause-left : goal.returns-clause-left
returns-clause-left c =
    let t = c.loop-found in
    left_all _ _ c.args.scanned.now t.found-index _ t.invariant.2 (omega (arith, c.loop-found-test.false, t.auto.found-index-end, ap length c.deref-found-items.ensures.0))
