use mathlib.Core.Path.{◌≡◌}
use Prim.Native.Nat.{◌-◌, ◌<◌}
use native.Mathlib.Omega.{arith}
use Rattle.numerics.specs.Double.{+0}
use Rattle.gerg_coefficients.specs.Load.{pair_doubles, pair_integers}
use Rattle.gerg_coefficients.specs.Filling.{FinitePairs}
use Rattle.gerg_coefficients.proofs.Finite.{finite_turn}
use Rattle.gerg_coefficients.proofs.Rows.{sum_none, sum_on, rows_none, pairs_before}
use Rattle.gerg_coefficients.proofs.Steps.{pairs_on, pair_bytes_on}
use Rattle.gerg_coefficients.proofs.load.put_pairs.Goals as goal

pub loop-i-init : goal.loop-i-init
loop-i-init c = (omega (arith, sum_none (λ h. 20 - h)), ((λ a la e. rows_none 4086 +0 _ a e), ((λ a la e. rows_none 1631 0 _ a e), λ e j h. absurd (omega arith))))

pub put_records-finite-requires : goal.put_records-finite-requires
put_records-finite-requires c =
    let p = c.loop-i.invariant.0 in
    let g = pairs_before c.loop-i.i (omega arith) in
    (omega arith, (omega arith, omega arith))

pub put_byte_records-requires : goal.put_byte_records-requires
put_byte_records-requires c =
    let p = c.loop-i.invariant.0 in
    let g = pairs_before c.loop-i.i (omega arith) in
    (omega arith, (omega arith, omega arith))

pub overflow_add-at : goal.overflow_add-at
overflow_add-at c =
    let p = c.loop-i.invariant.0 in
    let g = pairs_before c.loop-i.i (omega arith) in
    omega arith

pub loop-i-preserved : goal.loop-i-preserved
loop-i-preserved c =
    let i = c.loop-i.i in
    let h : i < 21 = c.loop-i-test.true in
    let p = c.loop-i.invariant.0 in
    let a = c.args in
    let inv = c.loop-i.invariant.1 in (
      omega (arith, sum_on (λ h. 20 - h) i),
      (
        (λ l la z. pairs_on a.s.now a.from i c.loop-i.at h p l la (inv.0 l la z) c.put_records-finite.ensures.0),
        (
          (λ l la z. pair_bytes_on a.s.now a.from i c.loop-i.at h p l la (inv.1.0 l la z) c.put_byte_records.ensures),
          finite_turn (FinitePairs a.s.now a.from) i c.loop-i.all c.put_records-finite.result inv.1.1
              (λ e. rw p at (c.put_records-finite.ensures.1 e)),
        ),
      ),
    )

pub returns : goal.returns
unfolding pair_doubles pair_integers
returns c =
    let e : c.loop-i.i ≡ 21 = omega arith in
    let inv = c.loop-i.invariant.1 in
    ((λ a la z. rw e at (inv.0 a la z)), ((λ a la z. rw e at (inv.1.0 a la z)), λ z. rw e at (inv.1.1 z)))
