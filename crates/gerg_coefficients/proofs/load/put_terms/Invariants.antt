use mathlib.Core.Path.{◌≡◌}
use mathlib.Core.List.{List, ◌++◌}
use Prim.Native.Nat.{ℕ, ◌+◌, ◌*◌}
use lib.Ieee.{Float}
use lib.ListN.{length}
use Rattle.numerics.specs.Double.{+0}
use Rattle.gerg_file.specs.Kinds as Kinds
use Rattle.gerg_file.specs.Counts.{sum, terms_of}
use Rattle.gerg_coefficients.specs.Load.{flat, doubles_at, bytes_at, row_of, terms}
use Rattle.gerg_coefficients.specs.Filling.{padded}
use Rattle.gerg_coefficients.proofs.load.put_terms.Given as goal

abbrev pub invariant-loop-i : goal.invariant-loop-i
invariant-loop-i l =
    (l.at ≡ l.from + (Kinds.term).size * sum (terms_of l.s) l.i)
    × (((a : List Float) → length a ≡ 273 → l.initial.doubles ≡ padded 4086 +0 a → l.doubles ≡ padded 4086 +0 (a ++ flat (λ h. row_of +0 (doubles_at l.s) (terms l.s l.from h) (Kinds.term).doubles 24 2) l.i))
    × ((a : List ℕ) → length a ≡ 42 → l.initial.integers ≡ padded 1631 0 a → l.integers ≡ padded 1631 0 (a ++ flat (λ h. row_of 0 (bytes_at l.s) (terms l.s l.from h) (Kinds.term).exponents 24 2) l.i)))
