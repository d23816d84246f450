-- `packed_decimal::bad_total` meets its contract. The invariant: the total of the parts so far, at most 1,000,000. Assumes nothing.
use mathlib.Core.Path.{◌≡◌}
use Prim.Native.Nat.{◌≤◌}
use Rattle.packed_decimal.proofs.Laws.Total.{first}
use Rattle.packed_decimal.proofs.bad_total.Given as goal

abbrev pub invariant-loop-part : goal.invariant-loop-part
invariant-loop-part l = (l.total ≤ 1_000_000) × (l.total ≡ first l.parts l.part-index)
