-- `gerg_terms::pure::pure_terms` meets its contract. The invariant: the record is the first k terms added to what it was where the loop begins. Assumes nothing.
use mathlib.Core.Path.{◌≡◌}
use Prim.Native.Nat.{◌≤◌, ◌+◌}
use Rattle.numerics.specs.Iterate.{iter}
use Rattle.gerg_tables.specs.Tables.{kpol, kexp}
use Rattle.gerg_tables.specs.Lent.{lent}
use Rattle.gerg_terms.specs.Terms.{pure_term}
use Rattle.gerg_terms.proofs.pure.pure_terms.Given as goal

abbrev pub invariant-loop-k : goal.invariant-loop-k
invariant-loop-k l =
    (l.n ≤ 24) × (l.n ≡ kpol l.pure.coefficients.integers.now l.pure.i + kexp l.pure.coefficients.integers.now l.pure.i) ×
    (l.sum ≡ iter (pure_term (lent l.pure.coefficients) l.pure.x l.reduced.small.delta l.pure.tau l.pure.i) l.k l.initial.sum)
