-- Signed numbers as code works them out. A signed local holds bits, so each step reads its operand back, `to_z w (of_z w z)`. Assumes nothing.
use mathlib.Core.Path.{◌≡◌, refl, sym, ap, subst, ◌∙◌}
use mathlib.Core.Bool.{true, false}
use Prim.Native.Nat.{ℕ, suc, ◌-◌}
use native.Mathlib.Omega.{arith}
use borrow.Author.Tests.{le-ltb}
use lib.Dec.{T, ltb}
use lib.Ieee.{Float}
use lib.IntN.{ℤ, pos, negsuc, nat_abs}
use lib.Signed.{lt_z}
use mir.Syntax.{w8, w32}
use mir.Val.{Fits, SFits, of_z, to_z}
use mir.ValLaws.{to_z-of_z, of_z-to_z, to_z-Fits}
use Rattle.numerics.specs.Double.{◌⊘◌, one, pick}
use Rattle.elementary.specs.Power.{power_of, powi_of, signed_of}

-- what the machine reads back
abbrev pub back : ℤ → ℤ
back z = to_z w32 (of_z w32 z)

-- a power by the sign of its exponent; the argument of a call is read back too
by_negative : (x : Float) (z : ℤ) → lt_z z (pos 0) ≡ true → one ⊘ power_of x (nat_abs z) ≡ powi_of x z
unfolding powi_of
by_negative x (pos n) e = absurd (subst T (sym e ∙ le-ltb n 0 (omega arith)) tt)
by_negative x (negsuc n) e = refl

by_positive : (x : Float) (z : ℤ) → lt_z z (pos 0) ≡ false → power_of x (nat_abs z) ≡ powi_of x z
unfolding powi_of
by_positive x (pos n) e = refl
by_positive x (negsuc n) e = absurd (subst T e tt)

pub powi_negative : (x : Float) (z : ℤ) → SFits w32 z → lt_z (back z) (pos 0) ≡ true → one ⊘ power_of x (nat_abs (back z)) ≡ powi_of x z
powi_negative x z f = rw (to_z-of_z w32 z f) (by_negative x z)

pub powi_positive : (x : Float) (z : ℤ) → SFits w32 z → lt_z (back z) (pos 0) ≡ false → power_of x (nat_abs (back z)) ≡ powi_of x z
powi_positive x z f = rw (to_z-of_z w32 z f) (by_positive x z)

-- ---- a byte as a signed number
byte_is : (b : ℕ) → to_z w8 b ≡ signed_of b
unfolding signed_of
byte_is b = ap (λ (k : ℕ). pick (ltb b 128) (pos b) (negsuc k)) (let e : 256 - suc b ≡ 255 - b = omega arith in e)

pub byte_back : (b : ℕ) (z : ℤ) → Fits w8 b → z ≡ to_z w8 b → to_z w8 (of_z w8 z) ≡ signed_of b
byte_back b z f e = ap (λ (z : ℤ). to_z w8 (of_z w8 z)) e ∙ ap (to_z w8) (of_z-to_z w8 b f) ∙ byte_is b

-- in 32 digits too
widen : (z : ℤ) → SFits w8 z → SFits w32 z
widen (pos n) f = record { sfits = let h = f.sfits in omega arith }
widen (negsuc n) f = record { sfits = let h = f.sfits in omega arith }

pub byte_wide : (b : ℕ) (z : ℤ) → Fits w8 b → z ≡ signed_of b → back z ≡ signed_of b
byte_wide b z f e = ap back (e ∙ sym (byte_is b)) ∙ to_z-of_z w32 (to_z w8 b) (widen (to_z w8 b) (to_z-Fits w8 b f)) ∙ byte_is b
