-- `gerg_isotherm::isotherm::pure_row` meets its contract. The invariant: the first k cells are written. Assumes nothing.
use mathlib.Core.Path.{◌≡◌}
use Prim.Native.Nat.{◌≤◌, ◌*◌}
use Rattle.gerg_isotherm.specs.Isotherm.{written, pure_cell}
use Rattle.gerg_isotherm.proofs.isotherm.pure_row.Given as goal

abbrev pub invariant-loop-k : goal.invariant-loop-k
invariant-loop-k l = (l.n ≤ 24) × (l.out ≡ written (pure_cell l.coefficients.doubles.now l.at.tau l.i) (24 * l.i) l.k l.initial.out)
