-- `gerg_isotherm::isotherm::all_rows` meets its contract. The invariant: the rows of the first i components are written. Assumes nothing.
use mathlib.Core.Path.{◌≡◌}
use Rattle.numerics.specs.Iterate.{iter}
use Rattle.gerg_tables.specs.Lent.{lent}
use Rattle.gerg_isotherm.specs.Isotherm.{component_rows}
use Rattle.gerg_isotherm.proofs.isotherm.all_rows.Given as goal

abbrev pub invariant-loop-i : goal.invariant-loop-i
invariant-loop-i l = l.out ≡ iter (component_rows (lent l.coefficients) l.x l.at.t l.at.tau) l.i l.initial.out
