-- `gerg_terms::departure::departure_pairs` meets its contract. The invariant: the record is the pairs before j added to what it was where the loop begins. Assumes nothing.
use mathlib.Core.Path.{◌≡◌}
use Prim.Native.Nat.{◌+◌}
use Rattle.numerics.specs.Iterate.{range}
use Rattle.gerg_tables.specs.Lent.{lent}
use Rattle.gerg_terms.specs.Terms.{departure_pair}
use Rattle.gerg_terms.proofs.departure.departure_pairs.Given as goal

abbrev pub invariant-loop-j : goal.invariant-loop-j
invariant-loop-j l = l.sum ≡ range (departure_pair (lent l.rows.coefficients) l.rows.fractions.now l.reduced.small.delta l.rows.tau l.i) (l.i + 1) l.j l.initial.sum
