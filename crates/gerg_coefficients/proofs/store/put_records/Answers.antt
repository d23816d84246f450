use mathlib.Core.Path.{◌≡◌}
use Prim.Native.Nat.{ℕ, ◌+◌, ◌*◌}
use Rattle.gerg_coefficients.specs.Load.{doubles_at}
use Rattle.gerg_coefficients.specs.Filling.{FiniteAt}
use Rattle.gerg_coefficients.proofs.Finite.{finite_turn}
use Rattle.gerg_coefficients.proofs.Put.{no_records, record_on, length_doubles_at}
use native.Mathlib.Omega.{arith}
use Rattle.gerg_coefficients.proofs.store.put_records.Goals as goal

pub loop-k-init : goal.loop-k-init
loop-k-init c = (no_records (doubles_at _) (length_doubles_at _) _ _ _ _ _, λ e j h. absurd (omega arith))

pub loop-k-preserved : goal.loop-k-preserved
loop-k-preserved c =
    let a = c.args in (
      record_on (doubles_at _) (length_doubles_at _) _ _ _ _ _ _ c.loop-k.invariant.0 c.put_doubles-finite.ensures.0,
      finite_turn (λ (j : ℕ). FiniteAt a.s.now (a.from + a.kind.doubles + a.kind.size * j) a.per) c.loop-k.k c.loop-k.all c.put_doubles-finite.result c.loop-k.invariant.1
          c.put_doubles-finite.ensures.1,
    )

pub returns : goal.returns
returns c = let e : c.loop-k.k ≡ c.args.count = omega arith in (rw e at c.loop-k.invariant.0, λ z. rw e at (c.loop-k.invariant.1 z))
