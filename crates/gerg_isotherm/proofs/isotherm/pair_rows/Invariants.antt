-- `gerg_isotherm::isotherm::pair_rows` meets its contract. The invariant: the rows of the pairs before j are written. Assumes nothing.
use mathlib.Core.Path.{◌≡◌}
use Prim.Native.Nat.{◌+◌}
use Rattle.numerics.specs.Iterate.{range}
use Rattle.gerg_tables.specs.Lent.{lent}
use Rattle.gerg_isotherm.specs.Isotherm.{pair_row}
use Rattle.gerg_isotherm.proofs.isotherm.pair_rows.Given as goal

abbrev pub invariant-loop-j : goal.invariant-loop-j
invariant-loop-j l = l.out ≡ range (pair_row (lent l.coefficients) l.x l.at.tau l.i) (l.i + 1) l.j l.initial.out
