-- The digits of a power's exponent: what the loop of `power` and the shared squares of `powers_below_8` rest on. Assumes nothing.
use mathlib.Core.Bool.{cond}
use mathlib.Core.Path.{◌≡◌, refl, sym, ◌∙◌}
use mathlib.Core.List.{[], ◌∷◌}
use Prim.Native.Nat.{ℕ, zero, suc, ◌*◌, ◌%◌, ◌/◌, ◌^◌, ◌<◌}
use native.Mathlib.Omega.{arith}
use native.Mathlib.Nat.{pow-suc}
use lib.Dec.{eqb}
use lib.Ieee.{Float}
use Rattle.numerics.specs.Fill.{tabulate}
use Rattle.numerics.specs.Double.{◌⊗◌, one}
use Rattle.elementary.specs.Power.{power_from, power_of, powi_of, powi_byte_of, signed_of}

-- no digit is left: nothing more happens to r
pub power_ends : (k : ℕ) (r b : Float) → power_from k r b 0 ≡ r
unfolding power_from
power_ends zero r b = refl
power_ends (suc k) r b = power_ends k r (b ⊗ b)

-- one digit
pub power_digit : (k : ℕ) (r b : Float) (n : ℕ) → power_from (suc k) r b n ≡ power_from k (cond (eqb (n % 2) 1) (r ⊗ b) r) (b ⊗ b) (n / 2)
unfolding power_from
power_digit k r b n = refl

-- a digit more than n has changes nothing
pub power_fuel : (k : ℕ) (r b : Float) (n : ℕ) → n < 2 ^ k → power_from (suc k) r b n ≡ power_from k r b n
power_fuel zero r b n h = let e : n ≡ 0 = omega arith in rw e (power_ends 1 r b ∙ sym (power_ends 0 r b))
power_fuel (suc k) r b n h =
    let g : n < 2 ^ k * 2 = rw (pow-suc 2 k) at h in
    let half : n / 2 < 2 ^ k = omega arith in
    power_digit (suc k) r b n ∙ power_fuel k _ _ (n / 2) half ∙ sym (power_digit k r b n)

-- a turn of the loop, for n below 2 ^ 32
pub power_turn : (r b : Float) (n : ℕ) → n < 2 ^ 32 → power_from 32 r b n ≡ power_from 32 (cond (eqb (n % 2) 1) (r ⊗ b) r) (b ⊗ b) (n / 2)
power_turn r b n h = sym (power_fuel 32 r b n h) ∙ power_digit 32 r b n

-- the powers 0 to 7, whose squares are shared
pub powers_below_8 :
    (x : Float) →
    tabulate (powi_byte_of x) 8
    ≡ one ∷ (one ⊗ x) ∷ (one ⊗ (x ⊗ x)) ∷ (one ⊗ x ⊗ (x ⊗ x)) ∷ (one ⊗ (x ⊗ x ⊗ (x ⊗ x))) ∷ (one ⊗ x ⊗ (x ⊗ x ⊗ (x ⊗ x)))
    ∷ (one ⊗ (x ⊗ x) ⊗ (x ⊗ x ⊗ (x ⊗ x))) ∷ (one ⊗ x ⊗ (x ⊗ x) ⊗ (x ⊗ x ⊗ (x ⊗ x))) ∷ []
unfolding tabulate powi_of signed_of power_of power_from
powers_below_8 x = refl
