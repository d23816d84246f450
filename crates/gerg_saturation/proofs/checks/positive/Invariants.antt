-- `positive` meets its contract. The invariant: the positive fractions of the places so far. Assumes nothing.
use mathlib.Core.Path.{◌≡◌}
use Prim.Native.Nat.{◌+◌, ◌≤◌, ◌<◌}
use lib.Ieee.{nan, lt}
use lib.ListN.{get_or}
use Rattle.numerics.specs.Double.{+0, pick}
use Rattle.numerics.specs.Iterate.{iter}
use Rattle.gerg_saturation.proofs.checks.positive.Given as goal

abbrev pub invariant-loop-k : goal.invariant-loop-k
invariant-loop-k l = (l.p.count ≤ l.k) × (l.p.place < 21) × (l.p.count ≡ iter (λ i c. pick (lt +0 (get_or l.model.fractions (get_or l.model.component_indices i 0) nan)) (c + 1) c) l.k 0) × (l.p.place ≡ iter (λ i place. pick (lt +0 (get_or l.model.fractions (get_or l.model.component_indices i 0) nan)) i place) l.k 0)
