-- `gerg_composition::composition::composition_row` meets its contract. The invariant: what the pairs up to j left. Assumes nothing.
use mathlib.Core.Path.{◌≡◌}
use Prim.Native.Nat.{◌+◌}
use Rattle.numerics.specs.Iterate.{range}
use Rattle.gerg_tables.specs.Lent.{lent}
use Rattle.gerg_composition.specs.Composition.{departure_pair}
use Rattle.gerg_composition.proofs.composition.composition_row.Given as goal

abbrev pub invariant-loop-j : goal.invariant-loop-j
invariant-loop-j l =
    l.g ≡ range (departure_pair (lent l.coefficients) l.x l.point.powers.delta l.point.tau l.i) (l.i + 1) l.j l.initial.g
