-- `gerg_terms::sums::components` meets its contract. The invariant: the record is the first i components added to what it was where the loop begins. Assumes nothing.
use mathlib.Core.Path.{◌≡◌}
use Rattle.numerics.specs.Iterate.{iter}
use Rattle.gerg_tables.specs.Lent.{lent}
use Rattle.gerg_terms.specs.Terms.{component}
use Rattle.gerg_terms.proofs.sums.components.Given as goal

abbrev pub invariant-loop-i : goal.invariant-loop-i
invariant-loop-i l =
    l.sum ≡ iter (component (lent l.rows.coefficients) l.rows.fractions.now l.rows.temperature l.density.rho l.reduced.small.delta l.rows.tau) l.i l.initial.sum
