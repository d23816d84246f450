-- `gerg_composition::composition::composition` meets its contract. The invariant: what the first i components left. Assumes nothing.
use mathlib.Core.Path.{◌≡◌}
use Rattle.numerics.specs.Iterate.{iter}
use Rattle.gerg_tables.specs.Lent.{lent}
use Rattle.gerg_composition.specs.Composition.{composition_row}
use Rattle.gerg_composition.proofs.composition.composition.Given as goal

abbrev pub invariant-loop-i : goal.invariant-loop-i
invariant-loop-i l =
    l.h ≡ iter (composition_row (lent l.coefficients) l.x l.fn.delta l.fn.tau) l.i l.initial.h
