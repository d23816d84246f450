use native.Mathlib.Omega.{arith}
use mathlib.Core.Path.{ap}
use Prim.Native.Nat.{ℕ, ◌+◌}
use Rattle.numerics.specs.Iterate.{iter_turn}
use Rattle.packed_decimal.proofs.Laws.Total.{total_past}
use Rattle.packed_decimal.proofs.bad_total.Goals as goal

pub returns-then-total-gt1000000 : goal.returns-then-total-gt1000000
returns-then-total-gt1000000 c = let l = c.loop-part in total_past _ _ _ (iter_turn _ l.part-index 0 l.invariant.1 (ap (λ (n : ℕ). l.total + n) c.from-total.ensures)) (omega arith) c.if-total-gt1000000.true
