-- `gerg_composition::composition::departure_terms` meets its contract. The invariant: the sums over the first k terms. Assumes nothing.
use mathlib.Core.Path.{◌≡◌}
use Prim.Native.Nat.{◌+◌, ◌≤◌}
use Rattle.numerics.specs.Iterate.{iter}
use Rattle.gerg_tables.specs.Tables.{kpolij, kexpij}
use Rattle.gerg_tables.specs.Lent.{lent}
use Rattle.gerg_composition.specs.Composition.{departure_step}
use Rattle.gerg_composition.proofs.composition.departure_terms.Given as goal

abbrev pub invariant-loop-k : goal.invariant-loop-k
invariant-loop-k l =
    (l.n ≤ 12) × (l.n ≡ kpolij l.coefficients.integers.now l.function.m + kexpij l.coefficients.integers.now l.function.m) ×
    (l.sum ≡ iter (departure_step (lent l.coefficients) l.function.pair l.point.powers.delta l.point.tau l.function.m) l.k l.initial.sum)
