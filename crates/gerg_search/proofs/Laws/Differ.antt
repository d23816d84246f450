-- Two constructors that would be equal: `cc`. Assumes nothing.
use mathlib.Core.Path.{◌≡◌}
use Prim.Native.Nat.{ℕ}
use native.Mathlib.Omega.{arith}

pub differ : {A : Type 0} → ◌≡◌ {A = ℕ} 0 1 → A
differ {A} e = absurd (no e)
  where
    no : ◌≡◌ {A = ℕ} 0 1 → ⊥
    no e = omega arith
