-- A double within one part in 2 ^ 40 of 1 differs from 1 by no more than the tolerance of row 4, either way. Assumes nothing.
use mathlib.Core.Path.{◌≡◌, refl, sym, subst}
use mathlib.Core.Bool.{Bool, true, false, ◌&&◌, cond}
use Prim.Native.Nat.{ℕ, ◌+◌, ◌-◌, ◌*◌, ◌^◌, ◌≤◌, ◌<◌}
use native.Mathlib.Nat.{mul-le-mul_left, mul-le-mul_right}
use borrow.Author.Tests.{ltb-true, ltb-false}
use native.Mathlib.Omega.{arith}
use lib.Count.{count_trailing_zeros}
use lib.Dec.{T, ltb, lit≤}
use lib.IntN.{pos}
use lib.Pow.{pow_pos}
use lib.Ieee.{Float, nan, inf, fin, binary64, round, units, odd, size, span, climb, neg, lt, le, eq, is_nan, of_bits}
use lib.Ieee.Exact.{odd_sign}
use lib.Ieee.Fits.{round_is}
use lib.Ieee.Order.{round_mono, drop, kept}
use lib.Ieee.Positive.{num, den, positive, den_pos}
use Rattle.numerics.specs.Common.{sub_mul}
use Rattle.numerics.specs.Double.{◌⊖◌, one}
use Rattle.numerics.specs.EitherSign.{sub_less}
use Rattle.numerics.specs.Nonneg.{nonneg_value}
use Rattle.numerics.specs.Order.{not_less, not_greater}
use Rattle.numerics.specs.Rounding.{sub_upright}
use Rattle.numerics.specs.Sign.{nonneg, of_nonneg, nonneg_finite, nonneg_positive, no_sign}
use Rattle.numerics.specs.Tests.{is_true}
use Rattle.gerg_model.specs.MixtureCheck.{sum_tolerance}

-- ---- the sign turned, on values without one
minus_below : (x y : Float) → T (nonneg x) → T (nonneg y) → le (neg x) y ≡ true
unfolding neg lt is_nan
minus_below x y p q =
    of_nonneg (λ (v : Float). le (neg v) y ≡ true)
    (λ m e. of_nonneg (λ (w : Float). le (fin true m e) w ≡ true) (λ n d. not_less (fin false n d) (fin true m e) refl refl refl) y q) x p

minus_turns : (x y : Float) → T (nonneg x) → T (nonneg y) → le x y ≡ true → le (neg y) (neg x) ≡ true
unfolding neg lt is_nan
minus_turns x y p q =
    of_nonneg (λ (v : Float). le v y ≡ true → le (neg y) (neg v) ≡ true)
    (λ m e. of_nonneg (λ (w : Float). le (fin false m e) w ≡ true → le (neg w) (fin true m e) ≡ true)
    (λ n d h. not_less (fin true m e) (fin true n d) refl refl (not_greater (fin false m e) (fin false n d) h)) y q) x p

-- ---- a rounding at most a double above zero is finite
not_infinite : (t : Float) → T (positive t) → T (le (inf false) t) → ⊥
unfolding le lt eq
not_infinite nan p h = p
not_infinite (inf s) p h = p
not_infinite (fin s m e) p h = h

nonneg_units : (t : Float) (q k : ℕ) → T (positive t) → T (le (units binary64 false q k) t) → T (nonneg (units binary64 false q k))
unfolding units
nonneg_units t q k p h = go (ltb (q * 2 ^ k) (2 ^ 2098)) h
  where
    go : (b : Bool) → T (le (cond b (odd 54 false q k 1074) (inf false)) t) → T (nonneg (cond b (odd 54 false q k 1074) (inf false)))
    go true h = nonneg_value (odd 54 false q k 1074) (q * 2 ^ k) (2 ^ 1074) (odd_sign 54 false q k 1074)
    go false h = absurd (not_infinite t p h)

nonneg_round : (t : Float) (a c : ℕ) → T (positive t) → T (le (round binary64 false a c) t) → T (nonneg (round binary64 false a c))
nonneg_round t a c p h =
    let e = round_is binary64 false a c in
    subst (λ (v : Float). T (nonneg v)) (sym e)
    (nonneg_units t (kept 53 (a * 2 ^ 1074) c) (drop 53 (a * 2 ^ 1074) c) p (subst (λ (v : Float). T (le v t)) e h))

-- ---- the tolerance
tolerance_is : sum_tolerance ≡ round binary64 false 0x11_2e0b_e826_d695 (2 ^ 82)
unfolding of_bits round units odd size span climb count_trailing_zeros
tolerance_is = refl

tolerance_positive : T (positive sum_tolerance)
unfolding of_bits
tolerance_positive = tt

-- 2 ^ -40 is below it
small_enough : (a c : ℕ) → 0 < c → a * 2 ^ 40 ≤ c → T (le (round binary64 false a c) sum_tolerance)
small_enough a c C h =
    subst (λ (v : Float). T (le (round binary64 false a c) v)) (sym tolerance_is)
    (round_mono binary64 a c 0x11_2e0b_e826_d695 (2 ^ 82) C (pow_pos 82) (wider a c (2 ^ 40) (2 ^ 42) 0x11_2e0b_e826_d695 h (lit≤ tt)))
  where
    wider : (a c u v n : ℕ) → a * u ≤ c → v ≤ n → a * (u * v) ≤ n * c
    wider a c u v n h k = omega (arith, mul-le-mul_right v h, mul-le-mul_left c k)

-- ---- a rounding that small, and its negative, lie within the tolerance
abbrev Within : Float → Type 0
Within d = (le (neg sum_tolerance) d && le d sum_tolerance) ≡ true

module _ (a c : ℕ) (C : 0 < c) (small : a * 2 ^ 40 ≤ c) where
  under : T (le (round binary64 false a c) sum_tolerance)
  under = small_enough a c C small

  plain : T (nonneg (round binary64 false a c))
  plain = nonneg_round sum_tolerance a c tolerance_positive under

  fits_above : Within (round binary64 false a c)
  fits_above = rw (minus_below sum_tolerance (round binary64 false a c) (nonneg_positive sum_tolerance tolerance_positive) plain, is_true (le (round binary64 false a c) sum_tolerance) under)

  fits_below : Within (neg (round binary64 false a c))
  fits_below =
      let t = nonneg_positive sum_tolerance tolerance_positive in
      rw (minus_turns (round binary64 false a c) sum_tolerance plain t (is_true (le (round binary64 false a c) sum_tolerance) under), minus_below (round binary64 false a c) sum_tolerance plain t)

-- ---- the difference from 1
bottom : (d : ℕ) → 0 < d → 0 < d * 1
bottom d h = omega arith

one_is : one ≡ fin false 1 (pos 0)
unfolding of_bits
one_is = refl

module _ (s : Float) (S : T (nonneg s)) (high : num s * 2 ^ 40 ≤ den s * (2 ^ 40 + 1)) (low : den s * 2 ^ 40 ≤ num s * (2 ^ 40 + 1)) where
  abbrev unity : Float
  unity = fin false 1 (pos 0)

  from_above : 1 * den s ≤ num s * 1 → Within (s ⊖ unity)
  from_above h =
      rw (sub_upright binary64 s unity (nonneg_finite s S) tt (no_sign s S) refl h)
      (fits_above (num s * 1 - 1 * den s) (den s * 1) (bottom (den s) (den_pos s)) (over (num s) (den s) (2 ^ 40) high))
    where
      over : (n d u : ℕ) → n * u ≤ d * (u + 1) → (n * 1 - 1 * d) * u ≤ d * 1
      over n d u h = rw (sub_mul (n * 1) (1 * d) u) (omega arith)

  from_below : num s * 1 < 1 * den s → Within (s ⊖ unity)
  from_below h =
      rw (sub_less binary64 s unity S tt h)
      (fits_below (1 * den s - num s * 1) (den s * 1) (bottom (den s) (den_pos s)) (under_it (num s) (den s) (2 ^ 40) h low))
    where
      under_it : (n d u : ℕ) → n * 1 < 1 * d → d * u ≤ n * (u + 1) → (1 * d - n * 1) * u ≤ d * 1
      under_it n d u k h = rw (sub_mul (1 * d) (n * 1) u) (omega arith)

  pub near_one : Within (s ⊖ one)
  near_one = subst (λ (v : Float). Within (s ⊖ v)) (sym one_is) (go (ltb (num s * 1) (1 * den s)) refl)
    where
      go : (b : Bool) → ltb (num s * 1) (1 * den s) ≡ b → Within (s ⊖ unity)
      go true e = from_below (ltb-true (num s * 1) (1 * den s) e)
      go false e = from_above (ltb-false (num s * 1) (1 * den s) e)
