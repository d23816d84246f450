-- `gerg_composition::composition::pure_terms` meets its contract. The invariant: the sum over the first k terms. Assumes nothing.
use mathlib.Core.Path.{◌≡◌}
use Prim.Native.Nat.{◌+◌, ◌≤◌}
use Rattle.numerics.specs.Double.{◌⊕◌}
use Rattle.numerics.specs.Iterate.{iter}
use Rattle.gerg_tables.specs.Tables.{kpol, kexp}
use Rattle.gerg_tables.specs.Lent.{lent}
use Rattle.gerg_composition.specs.Composition.{pure_term}
use Rattle.gerg_composition.proofs.composition.pure_terms.Given as goal

abbrev pub invariant-loop-k : goal.invariant-loop-k
invariant-loop-k l =
    (l.n ≤ 24) × (l.n ≡ kpol l.coefficients.integers.now l.i + kexp l.coefficients.integers.now l.i) ×
    (l.sum ≡ iter (λ k s. s ⊕ pure_term (lent l.coefficients) l.point.powers.delta l.point.tau l.i k) l.k l.initial.sum)
