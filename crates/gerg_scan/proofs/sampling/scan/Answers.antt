use Prim.Native.Nat.{◌+◌}
use native.Mathlib.Omega.{arith}
use mathlib.Core.List.{List}
use mathlib.Core.Path.{sym, ap, ◌∙◌}
use lib.ListN.{length}
use Rattle.std.specs.Prelude.{Ok}
use Rattle.std.proofs.lemmas.Result.{err_from_is_err_and}
use Rattle.gerg_scan_steps.specs.Answers.{leaves, mapped}
use Rattle.gerg_scan_steps.specs.Scan.{rootless}
use Rattle.gerg_scan_steps.specs.declared.Point.{Point}
use Rattle.gerg_scan_steps.specs.declared.Scan.{Scan}
use Rattle.gerg_scan_steps.specs.declared.Scanned.{Scanned}
use Rattle.gerg_scan_steps.proofs.Laws.Loops.{scanned_first, rest_length, scanned_more, scanned_refused, scanned_all, left_first, left_unbegun, left_more, left_refused, left_all}
use Rattle.gerg_scan_steps.proofs.Laws.ScanFew.{step_few}
use Rattle.gerg_scan.specs.Sought.{sample_for}
use Rattle.gerg_scan.proofs.sampling.scan.Goals as goal

abbrev with_roots : Scan → List Point → Scanned
with_roots s roots = record { scan = s; roots = record { items = roots } }

pub returns-in_err-scanned-clause-accepted : goal.returns-in_err-scanned-clause-accepted
returns-in_err-scanned-clause-accepted c =
    let p = err_from_is_err_and c.from_residual.result c.from_residual.ensures.1 in
    let e = sym c.in_err-scanned.was ∙ c.begun.ensures ∙ rw c.sample.ensures in
    rw (p.1, p.2) (scanned_refused (sample_for c.args.sought) c.args.sought.pressure c.args.grid.now 1 _ c.requires.0 (scanned_first _ _ _ _ (ap (mapped rootless) e)))

pub returns-in_err-scanned-clause-left : goal.returns-in_err-scanned-clause-left
returns-in_err-scanned-clause-left c =
    let e = sym c.in_err-scanned.was ∙ c.begun.ensures ∙ rw c.sample.ensures in
    rw c.before-scanned.ensures (ap (with_roots _) c.clear.ensures ∙ left_unbegun (sample_for c.args.sought) c.args.sought.pressure c.args.grid.now _ e)

pub loop-point-init : goal.loop-point-init
loop-point-init c =
    let e = sym c.in_ok-scanned.was ∙ c.begun.ensures ∙ rw c.sample.ensures in
    let none = c.clear.ensures in
    (omega (arith, ap length none), ap (λ (l : List Point). Ok (with_roots c.in_ok-scanned.field-0 l)) none ∙ scanned_first (sample_for c.args.sought) c.args.sought.pressure _ _ (ap (mapped rootless) e), rw none (left_first (sample_for c.args.sought) c.args.sought.pressure _ _ e))

pub returns-in_err-step-clause-accepted : goal.returns-in_err-step-clause-accepted
returns-in_err-step-clause-accepted c =
    let t = c.loop-point in
    let s = ap (λ z. leaves z c.step.new.scanned) (sym c.in_err-step.was) ∙ c.step.ensures.accepted in
    let p = err_from_is_err_and c.from_residual-in_err-step.result c.from_residual-in_err-step.ensures.1 in
    rw (p.1, p.2)
    (scanned_refused _ _ c.args.grid.now (t.point-index + 1 + 1) _ (omega (arith, rest_length c.args.grid.now c.requires.0, c.loop-point-test.true)) (scanned_more _ _ _ _ _ _ c.loop-point-test.true t.invariant.1 s))

pub returns-in_err-step-clause-left : goal.returns-in_err-step-clause-left
returns-in_err-step-clause-left c =
    let t = c.loop-point in
    let s = ap (λ z. leaves z c.step.new.scanned) (sym c.in_err-step.was) ∙ c.step.ensures.accepted in
    c.step.ensures.left ∙ left_refused _ _ _ t.point-index _ _ c.loop-point-test.true t.invariant.2 s

pub loop-point-preserved : goal.loop-point-preserved
loop-point-preserved c =
    let t = c.loop-point in
    let s = ap (λ z. leaves z c.step.new.scanned) (sym c.in_ok-step.was) ∙ c.step.ensures.accepted in
    (omega (arith, t.invariant.0, step_few _ _ _ _ _ s), scanned_more _ _ _ _ _ _ c.loop-point-test.true t.invariant.1 s, left_more _ _ _ _ _ _ c.loop-point-test.true t.invariant.2 s)

pub returns-clause-accepted : goal.returns-clause-accepted
returns-clause-accepted c =
    let t = c.loop-point in
    scanned_all _ _ _ (t.point-index + 1) _ t.invariant.1 (omega (arith, rest_length c.args.grid.now c.requires.0, c.loop-point-test.false, t.auto.point-index-end))

pub returns-clause-left : goal.returns-clause-left
returns-clause-left c =
    let t = c.loop-point in
    left_all _ _ _ (t.point-index + 1) _ t.invariant.2 (omega (arith, rest_length c.args.grid.now c.requires.0, c.loop-point-test.false, t.auto.point-index-end))
