-- `gerg_model::mixture::indices` meets its contract. The invariant: the first k places are written. Assumes nothing.
use mathlib.Core.Path.{◌≡◌}
use Prim.Native.Nat.{◌-◌}
use lib.ListN.{get_or, set}
use Rattle.numerics.specs.Iterate.{iter}
use Rattle.gerg_model.proofs.mixture.indices.Given as goal

abbrev pub invariant-loop-k : goal.invariant-loop-k
invariant-loop-k l = l.a ≡ iter (λ i b. set b i (get_or l.list i 0 - 1)) l.k l.initial.a
