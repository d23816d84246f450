use mathlib.Core.Path.{◌≡◌}
use mathlib.Core.List.{List, ◌++◌}
use Prim.Native.Nat.{ℕ, ◌+◌, ◌*◌}
use lib.Ieee.{Float}
use lib.ListN.{length}
use Rattle.numerics.specs.Double.{+0}
use Rattle.gerg_file.specs.Kinds as Kinds
use Rattle.gerg_file.specs.Counts.{sum, departures_of}
use Rattle.gerg_coefficients.specs.Load.{flat, doubles_at, bytes_at, row_of, departures}
use Rattle.gerg_coefficients.specs.Filling.{padded}
use Rattle.gerg_coefficients.proofs.load.put_departures.Given as goal

abbrev pub invariant-loop-m : goal.invariant-loop-m
invariant-loop-m l =
    (l.at ≡ l.from + (Kinds.departure).size * sum (departures_of l.s l.functions l.count) l.m)
    × (((a : List Float) → length a ≡ 3486 → l.initial.doubles ≡ padded 4086 +0 a → l.doubles ≡ padded 4086 +0 (a ++ flat (λ h. row_of +0 (doubles_at l.s) (departures l.s l.functions l.count l.from h) (Kinds.departure).doubles 12 5) l.m))
    × ((a : List ℕ) → length a ≡ 1511 → l.initial.integers ≡ padded 1631 0 a → l.integers ≡ padded 1631 0 (a ++ flat (λ h. row_of 0 (bytes_at l.s) (departures l.s l.functions l.count l.from h) (Kinds.departure).exponent 12 1) l.m)))
