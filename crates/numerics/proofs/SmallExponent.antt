-- Bounds of e ^ s and e ^ -s for a small s, and what such factors leave room for.
--   exp_upper_above, exp_lower_below   e ^ s ≤ 1 + s + s ^ 2 and 1 - s - s ^ 2 ≤ e ^ -s, for s ≤ 1 / 2
--   power_exp_upper                    (1 + s / n) ^ n ≤ 1 + s + s ^ 2
--   room_for                           between u < v there is room for the square of such a factor
-- Assumes nothing.
use Rattle.std.specs.Prelude.{◌≡◌, ℕ, zero, suc, ◌+◌, ◌-◌, ◌*◌, ◌^◌, ◌≤◌, ◌<◌}
use Rattle.std.proofs.Common.{ap, le_refl, mul-pos, mul-le-mul, mul-le-mul_right, mul-le-mul_left, add-sub_of_le, pow-suc, arith}
use Rattle.std.proofs.Math.Nat.{pow-zero}
use Rattle.numerics.specs.Frac.{Frac, ◌⊑◌, ◌⊏◌, ◌⊞◌, ◌⊠◌, nat, ⊑_refl, ⊑_trans}
use Rattle.numerics.specs.Series.{sum_bot}
use Rattle.numerics.specs.Law.{mono-⊠, power}
use Rattle.numerics.specs.Exponential.{plus_of, minus_of, powers, sums, AboveExp, BelowExp}
use Rattle.numerics.proofs.ExpBounds.{below_above_exp}
use Rattle.numerics.proofs.ExpBoundLaws.{above_plain, below_plain}
use Rattle.numerics.proofs.ExpBoundSums.{times_of}
use Rattle.numerics.proofs.ExponentialLaws.{exp_above_arg, exp_below_times}
use Rattle.numerics.proofs.ExponentOrder.{exp_one_more}

-- ---- 1 - s - s ^ 2 ≤ e ^ -s and e ^ s ≤ 1 + s + s ^ 2, for s ≤ 1 / 2
abbrev pub exp_upper : Frac → Frac
exp_upper s = record { top = s.bot * s.bot + (s.top * s.bot + s.top * s.top); bot = s.bot * s.bot; good = mul-pos s.good s.good }

abbrev pub exp_lower : Frac → Frac
exp_lower s = record { top = s.bot * s.bot - (s.top * s.bot + s.top * s.top); bot = s.bot * s.bot; good = mul-pos s.good s.good }

square : (n : ℕ) → n ^ 2 ≡ n * n
square n = rw (pow-suc n 1, pow-suc n 0, pow-zero n) (omega arith)

upper_plain : (a b : ℕ) → ((1 * (b * 1) + (1 * a + 0 * 0)) * (b * 2) + 2 * (a * a)) * (b * b) ≤ (b * b + (a * b + a * a)) * (1 * (b * 1) * (b * 2)) + (0 * (b * 1) + (1 * 0 + 0 * a)) * (b * 2) * (b * b)
upper_plain a b = omega arith

lower_plain : (a b v : ℕ) → a * b + a * a + v ≡ b * b → v * (1 * (b * 1) * (b * 2)) + ((0 * (b * 1) + (1 * a + 0 * 0)) * (b * 2) + 2 * (a * a)) * (b * b) ≤ (1 * (b * 1) + (1 * 0 + 0 * a)) * (b * 2) * (b * b)
lower_plain a b v e = omega (arith, ap (λ (z : ℕ). 2 * (b * b) * z) e)

pub lower_rest : (a b : ℕ) → 2 * a ≤ b → a * b + a * a + (b * b - (a * b + a * a)) ≡ b * b
lower_rest a b h = add-sub_of_le (omega (arith, mul-le-mul_right b h, mul-le-mul_right a h))

pub exp_upper_above : (s : Frac) → 2 * s.top ≤ s.bot → AboveExp (plus_of s) (exp_upper s)
unfolding sums powers sum_bot
exp_upper_above s h =
    let e : s.top - 0 + (0 - s.top) ≡ s.top = omega arith in
    (1, (rw e (omega arith), above_plain 1 (plus_of s) (exp_upper s) (rw (e, square s.top) (upper_plain s.top s.bot))))

pub exp_lower_below : (s : Frac) → 2 * s.top ≤ s.bot → BelowExp (minus_of s) (exp_lower s)
unfolding sums powers sum_bot
exp_lower_below s h =
    let e : 0 - s.top + (s.top - 0) ≡ s.top = omega arith in
    (1, (rw e (omega arith), below_plain 1 (minus_of s) (exp_lower s) (rw (e, square s.top) (lower_plain s.top s.bot (s.bot * s.bot - (s.top * s.bot + s.top * s.top)) (lower_rest s.top s.bot h)))))

-- ---- powers of fractions
pub power_mono : (n : ℕ) (p q : Frac) → p ⊑ q → power n p ⊑ power n q
unfolding power
power_mono zero p q h = omega arith
power_mono (suc n) p q h = mono-⊠ p q (power n p) (power n q) h (power_mono n p q h)

pub power_times : (n : ℕ) (p q : Frac) → power n (p ⊠ q) ⊑ power n p ⊠ power n q
unfolding power
power_times zero p q = omega arith
power_times (suc n) p q =
    ⊑_trans (p ⊠ q ⊠ power n (p ⊠ q)) (p ⊠ q ⊠ (power n p ⊠ power n q)) (p ⊠ power n p ⊠ (q ⊠ power n q)) (mono-⊠ (p ⊠ q) (p ⊠ q) (power n (p ⊠ q)) (power n p ⊠ power n q) (⊑_refl (p ⊠ q)) (power_times n p q)) (turn p q (power n p) (power n q))
  where
    turn : (p q r s : Frac) → p ⊠ q ⊠ (r ⊠ s) ⊑ p ⊠ r ⊠ (q ⊠ s)
    turn p q r s = omega arith

-- (1 + s / n) ^ n ≤ 1 + s + s ^ 2
abbrev pub shared : Frac → (n : ℕ) → 0 < n → Frac
shared s n N = record { top = s.top; bot = s.bot * n; good = mul-pos s.good N }

pub power_exp_upper : (n : ℕ) (N : 0 < n) (s : Frac) → 2 * s.top ≤ s.bot → power n (nat 1 ⊞ shared s n N) ⊑ exp_upper s
power_exp_upper n N s h =
    let g = shared s n N in
    below_above_exp (times_of n (plus_of g)) (power n (nat 1 ⊞ g)) (exp_upper s) (exp_below_times n (plus_of g) (nat 1 ⊞ g) (exp_one_more g))
    (exp_above_arg (times_of n (plus_of g)) (plus_of s) (exp_upper s) (fits s.top s.bot n) (exp_upper_above s h))
  where
    fits : (t b n : ℕ) → n * t * b + 0 * (b * n) ≤ t * (b * n) + n * 0 * b
    fits t b n = omega arith

-- ---- u < v leaves room for a factor (1 + s + s ^ 2) ^ 2
-- with s = 1 / N the factor is at most 1 + 8 / N
factor : (N : ℕ) → 2 ≤ N → (N * N + (1 * N + 1 * 1)) * (N * N + (1 * N + 1 * 1)) ≤ N * (N * (N * N)) + 8 * (N * (N * N))
factor N h = omega (arith, mul-le-mul h h, mul-le-mul_right (N * N) h, mul-le-mul_right (N * (N * N)) h, mul-le-mul_right N h)

step : (a b w N Q : ℕ) → 0 < Q → a < b → 8 * a + 2 ≤ N → w ≤ N * Q + 8 * Q → a * w < b * (N * Q)
step a b w N Q P h n k = omega (arith, P, mul-le-mul_left a k, mul-le-mul_right Q n, mul-le-mul_right (N * Q) h)

pub room_for : (u v : Frac) → u ⊏ v → (s : Frac) × ((0 < s.top) × ((2 * s.top ≤ s.bot) × (u ⊠ (exp_upper s ⊠ exp_upper s) ⊏ v)))
room_for u v h =
    let N = 8 * (u.top * v.bot) + 2 in
    let n : 2 ≤ N = omega arith in
    let P : 0 < N = omega arith in (
      record { top = 1; bot = N; good = P },
      (omega arith, (n, turn u.top u.bot v.top v.bot ((N * N + (1 * N + 1 * 1)) * (N * N + (1 * N + 1 * 1))) N (step (u.top * v.bot) (v.top * u.bot) ((N * N + (1 * N + 1 * 1)) * (N * N + (1 * N + 1 * 1))) N (N * (N * N)) (mul-pos P (mul-pos P P)) h (le_refl N) (factor N n)))),
    )
  where
    turn : (a b c d w N : ℕ) → a * d * w < c * b * (N * (N * (N * N))) → a * w * d < c * (b * (N * N * (N * N)))
    turn a b c d w N h = omega (arith, h)
