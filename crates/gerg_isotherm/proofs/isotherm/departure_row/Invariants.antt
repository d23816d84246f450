-- `gerg_isotherm::isotherm::departure_row` meets its contract. The invariant: the first k cells are written. Assumes nothing.
use mathlib.Core.Path.{◌≡◌}
use Prim.Native.Nat.{◌≤◌, ◌+◌, ◌*◌}
use Rattle.gerg_isotherm.specs.Isotherm.{written, departure_cell}
use Rattle.gerg_isotherm.proofs.isotherm.departure_row.Given as goal

abbrev pub invariant-loop-k : goal.invariant-loop-k
invariant-loop-k l = (l.n ≤ 12) × (l.out ≡ written (departure_cell l.coefficients.doubles.now l.at.tau l.m) (504 + 12 * l.m) l.k l.initial.out)
