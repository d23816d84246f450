use mathlib.Core.Path.{◌≡◌}
use mathlib.Core.Bool.{true}
use mathlib.Core.List.{List, ◌++◌}
use Prim.Native.Nat.{ℕ, ◌+◌, ◌*◌, ◌-◌, ◌<◌}
use lib.Ieee.{Float}
use lib.ListN.{length}
use Rattle.numerics.specs.Double.{+0}
use Rattle.gerg_file.specs.Kinds as Kinds
use Rattle.gerg_file.specs.Counts.{sum}
use Rattle.gerg_coefficients.specs.Load.{flat, doubles_at, bytes_at, row_of, pairs}
use Rattle.gerg_coefficients.specs.Filling.{padded, FinitePairs}
use Rattle.gerg_coefficients.proofs.load.put_pairs.Given as goal

abbrev pub invariant-loop-i : goal.invariant-loop-i
invariant-loop-i l =
    (l.at ≡ l.from + (Kinds.pair).size * (sum (λ h. 20 - h) l.i + l.i))
    × (((a : List Float) → length a ≡ 1281 → l.initial.doubles ≡ padded 4086 +0 a → l.doubles ≡ padded 4086 +0 (a ++ flat (λ h. row_of +0 (doubles_at l.s) (pairs l.from h) (Kinds.pair).doubles 21 5) l.i))
    × (((a : List ℕ) → length a ≡ 1050 → l.initial.integers ≡ padded 1631 0 a → l.integers ≡ padded 1631 0 (a ++ flat (λ h. row_of 0 (bytes_at l.s) (pairs l.from h) (Kinds.pair).number 21 1) l.i))
    × (l.all ≡ true → (h : ℕ) → h < l.i → FinitePairs l.s l.from h)))
