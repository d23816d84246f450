-- The fraction of parts below 2 ^ 32 is the double nearest to parts / 1,000,000 (`fraction_nearest`). Assumes nothing.
-- No such fraction is halfway between two doubles: fewer than 1035 digits are dropped of p × 2 ^ 1074 / 1000000, so a tie would make an even number an odd multiple of 15625.
use mathlib.Core.Path.{◌≡◌, sym, ap, ◌∙◌, subst}
use mathlib.Core.Logic.{◌⊎◌, inl, inr}
use mathlib.Core.Bool.{false}
use Prim.Native.Nat.{ℕ, ◌+◌, ◌-◌, ◌*◌, ◌^◌, ◌≤◌, ◌<◌}
use native.Mathlib.Nat.{le_trans, lt_of_lt_of_le, lt_of_not-le, mul-le-mul_right, mul-lt-mul_of_pos_right, eq_of_mul-eq-mul_right, eq-zero-or-pos}
use native.Mathlib.Omega.{arith}
use lib.Dec.{T, lit<, lit≤}
use lib.Pow.{pow-add, pow_pos, pow_mono}
use lib.Ieee.{binary64, round}
use lib.Ieee.Order.{drop}
use lib.Ieee.Scale.{grid, finite, round_val}
use Rattle.numerics.specs.Nearest.{Nearest}
use Rattle.numerics.specs.Round.{inside}
use Rattle.numerics.specs.Fixed.{zero_val}
use Rattle.numerics.specs.Rounding.{finite_of_value}
use Rattle.numerics.specs.NearestLaws.{leading, rounded_nearest}
use Rattle.packed_decimal.specs.Record.{fraction_of, millionths}

-- ---- no overflow
round_finite : (p : ℕ) → p < 2 ^ 32 → T (finite (round binary64 false p 1_000_000))
round_finite p h = go (eq-zero-or-pos p)
  where
    reach : (M : ℕ) → 1_000_000 ≤ M → 0 < p → 1_000_000 ≤ p * M
    reach M m P = le_trans m (omega (arith, mul-le-mul_right M P))

    room : (M : ℕ) → 2 ^ 32 ≤ M → p ≤ 1_000_000 * M
    room M m = omega arith

    go : (p ≡ 0) ⊎ (0 < p) → T (finite (round binary64 false p 1_000_000))
    go (inl e) = subst (λ (a : ℕ). T (finite (round binary64 false a 1_000_000))) (sym e) (finite_of_value (round binary64 false 0 1_000_000) false 0 (2 ^ 1074) (zero_val 1_000_000 (lit< tt)))
    go (inr P) =
        finite_of_value (round binary64 false p 1_000_000) false (grid binary64 p 1_000_000) (2 ^ 1074)
        (round_val binary64 p 1_000_000 (inside p 1_000_000 (lit< tt) (reach (2 ^ 1022) (lit≤ tt) P) (room (2 ^ 1023) (lit≤ tt))))

-- ---- no tie
-- 2 ^ 52 × 1000000 × 2 ^ 1035 exceeds 2 ^ 32 × 2 ^ 1074, as 1000000 exceeds 2 ^ 19
too_many : (p P Q : ℕ) → 0 < Q → p < 2 ^ 32 → Q ≤ P → 2 ^ 52 * (1_000_000 * P) ≤ p * (2 ^ 39 * Q) → ⊥
too_many p P Q Z h l g = omega (arith, mul-lt-mul_of_pos_right h Z)

few_dropped : (p k : ℕ) → p < 2 ^ 32 → (0 < k → 2 ^ 52 * (1_000_000 * 2 ^ k) ≤ p * 2 ^ 1074) → k < 1035
few_dropped p k h g =
    lt_of_not-le (λ (l : 1035 ≤ k). too_many p (2 ^ k) (2 ^ 1035) (pow_pos 1035) h (pow_mono l) (subst (λ (z : ℕ). 2 ^ 52 * (1_000_000 * 2 ^ k) ≤ p * z) (pow-add 2 39 1035) (g (lt_of_lt_of_le (lit< tt) l))))

-- 1000000 is 64 × 15625
even_odd : (p J P t : ℕ) → 0 < P → 2 * (p * (J * 64 * P)) ≡ (2 * t + 1) * (1_000_000 * P) → ⊥
even_odd p J P t Z e =
    let f : 2 * (p * J) * 64 ≡ (2 * t + 1) * 1_000_000 = eq_of_mul-eq-mul_right P Z (2 * (p * J) * 64) ((2 * t + 1) * 1_000_000) (omega (arith, e)) in
    parity (p * J) t f
  where
    parity : (w t : ℕ) → 2 * w * 64 ≡ (2 * t + 1) * 1_000_000 → ⊥
    parity w t f = omega arith

no_tie : (p k t : ℕ) → k < 1035 → 2 * (p * 2 ^ 1074) ≡ (2 * t + 1) * (1_000_000 * 2 ^ k) → ⊥
no_tie p k t h e =
    let s : 1068 - k + 6 + k ≡ 1074 = omega arith in
    let w : 2 ^ 1074 ≡ 2 ^ (1068 - k) * 64 * 2 ^ k = ap (λ (z : ℕ). 2 ^ z) (sym s) ∙ pow-add 2 (1068 - k + 6) k ∙ ap (λ (z : ℕ). z * 2 ^ k) (pow-add 2 (1068 - k) 6) in
    even_odd p (2 ^ (1068 - k)) (2 ^ k) t (pow_pos k) (subst (λ (z : ℕ). 2 * (p * z) ≡ (2 * t + 1) * (1_000_000 * 2 ^ k)) w e)

pub fraction_nearest : (p : ℕ) → p < 2 ^ 32 → Nearest (millionths p) (fraction_of p)
unfolding fraction_of
fraction_nearest p h =
    let n = p * 2 ^ 1074 in
    let k = drop 53 n 1_000_000 in
    rounded_nearest (millionths p) (round_finite p h) (λ t e. no_tie p k t (few_dropped p k h (leading n 1_000_000 (lit< tt))) e)
