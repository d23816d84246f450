use mathlib.Core.Path.{◌≡◌}
use Prim.Native.Nat.{ℕ, ◌+◌, ◌-◌}
use Rattle.gerg_file.specs.File.{Walk, chain}
use Rattle.gerg_file.proofs.records.run.Given as goal

abbrev pub invariant-loop-number : goal.invariant-loop-number
invariant-loop-number g l =
    (f : ℕ → ℕ → Walk) → ((i here : ℕ) (r : Walk) → goal.F-post g l.step i here r → r ≡ f i here)
    → chain f l.count l.first l.at ≡ chain f (l.first + l.count - l.number) l.number l.here
