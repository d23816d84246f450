use mathlib.Core.Path.{◌≡◌}
use mathlib.Core.Bool.{true}
use Prim.Native.Nat.{ℕ, ◌+◌, ◌*◌, ◌<◌}
use lib.Seq.{sets}
use Rattle.gerg_coefficients.specs.Load.{doubles_at, run_of}
use Rattle.gerg_coefficients.specs.Filling.{FiniteAt}
use Rattle.gerg_coefficients.proofs.store.put_records.Given as goal

abbrev pub invariant-loop-k : goal.invariant-loop-k
invariant-loop-k l =
    (l.out ≡ sets l.initial.out l.to (run_of (doubles_at l.s) (l.from + l.kind.doubles) l.kind.size l.k l.per))
    × (l.all ≡ true → (j : ℕ) → j < l.k → FiniteAt l.s (l.from + l.kind.doubles + l.kind.size * j) l.per)
