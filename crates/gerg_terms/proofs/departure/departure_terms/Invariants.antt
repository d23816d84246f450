-- `gerg_terms::departure::departure_terms` meets its contract. The invariant: the record is the first k terms added to what it was where the loop begins. Assumes nothing.
use mathlib.Core.Path.{◌≡◌}
use Prim.Native.Nat.{◌≤◌, ◌+◌}
use Rattle.numerics.specs.Iterate.{iter}
use Rattle.gerg_tables.specs.Tables.{kpolij, kexpij}
use Rattle.gerg_tables.specs.Lent.{lent}
use Rattle.gerg_terms.specs.Terms.{departure_term}
use Rattle.gerg_terms.proofs.departure.departure_terms.Given as goal

abbrev pub invariant-loop-k : goal.invariant-loop-k
invariant-loop-k l =
    (l.n ≤ 12) × (l.n ≡ kpolij l.departure.coefficients.integers.now l.departure.m + kexpij l.departure.coefficients.integers.now l.departure.m) ×
    (l.sum ≡ iter (departure_term (lent l.departure.coefficients) l.departure.factor l.reduced.small.delta l.departure.tau l.departure.m) l.k l.initial.sum)
