-- How far the remainder of the exponential's reduction is off: x and (u - zero_steps) * L + r differ by at most 4 / (2 ^ 53 - 1), where L = hi + lo exactly, near ln 2 / 64.
-- Each side is written with sums alone: the part of x, and of u - zero_steps, that is below zero stands on the other side. Assumes nothing.
use mathlib.Core.Path.{◌≡◌, sym, ap}
use Prim.Native.Nat.{ℕ, ◌+◌, ◌-◌, ◌*◌, ◌^◌, ◌≤◌, ◌<◌}
use native.Mathlib.Nat.{le_trans, le_of_eq, le_of_lt, mul-pos, mul-one, mul-le-mul_right}
use native.Mathlib.Omega.{arith}
use lib.Dec.{T, lit≤}
use lib.Pow.{pow_pos}
use lib.Ieee.{Float}
use lib.Ieee.Positive.{num, den, positive, den_pos}
use Rattle.numerics.specs.Frac.{Frac, ◌⊑◌, ◌⊞◌, nat, ⊑_trans, Close}
use Rattle.numerics.specs.Law.{times}
use Rattle.numerics.specs.Round.{val}
use Rattle.numerics.specs.Bound.{off}
use Rattle.numerics.specs.EitherSign.{plus, minus, plus_positive, minus_positive}
use Rattle.elementary_exp.specs.Exp.{counted_of, steps_of}
use Rattle.elementary_exp.specs.Range.{InRange}
use Rattle.elementary_distance.proofs.ExpParts.{over_den, low_exact}
use Rattle.elementary_distance.proofs.ExpRemainder.{high_part, low_part, high_good, low_plus_near, low_minus_near, plus_few, minus_few, partly, first, partly_rel, gap₁, gap₂, v_hi, b_plus, b_minus, reduced, second, reduced_rel, r_hi}
use Rattle.elementary_exp.proofs.ExpConstants.{far_steps, high_top, low_top, remainder_most, zero_steps, step}
use Rattle.elementary_distance.proofs.ExpErrors.{fr, gap_up, gap_down}

-- ---- the two parts of m * L
parts : (k t d p q H L : ℕ) → t * p ≡ k * H * d → (t * (p * q) + k * L * d) * (p * q) ≡ k * (H * q + L) * (d * (p * q))
parts k t d p q H L h = omega (arith, ap (λ (x : ℕ). x * (q * p * q)) h)

same : (k t d : ℕ) (D : 0 < d) → t * 2 ^ 40 ≡ k * high_top * d → (fr t d D ⊞ low_exact k).top * step.bot ≡ (times k step).top * (fr t d D ⊞ low_exact k).bot
same k t d D h = parts k t d (2 ^ 40) (2 ^ 52) high_top low_top h

million : (x B h : ℕ) → h ≤ 10000000000 → x * 10000000000 ≤ h * B → x * 1 ≤ 1 * B
million x B h l e = omega (arith, mul-le-mul_right B l)

low_one : (k : ℕ) → k ≤ far_steps → low_exact k ⊑ nat 1
low_one k h = le_trans (le_of_eq (mul-one (k * low_top))) (le_trans (mul-le-mul_right low_top h) (lit≤ tt))

-- x + (y + z) in the two orders
swap : (p q r s : Frac) → q ⊞ r ⊑ s → p ⊞ q ⊞ r ⊑ p ⊞ s
swap p q r s h = omega (arith, mul-le-mul_right (p.bot * p.bot) h)

swap' : (p q r s : Frac) → s ⊑ q ⊞ r → p ⊞ s ⊑ p ⊞ q ⊞ r
swap' p q r s h = omega (arith, mul-le-mul_right (p.bot * p.bot) h)

mono_left : (p q r : Frac) → p ⊑ q → p ⊞ r ⊑ q ⊞ r
mono_left p q r h = omega (arith, mul-le-mul_right (r.bot * r.bot) h)

-- ---- the reduction of x
module _ (x : Float) (range : InRange x) where
  abbrev u : ℕ
  u = steps_of (counted_of x)

  abbrev x⁺ : Frac
  x⁺ = over_den (plus x) x

  abbrev x⁻ : Frac
  x⁻ = over_den (minus x) x

  abbrev a : Float
  a = high_part x range

  abbrev b : Float
  b = low_part x range

  abbrev v : Float
  v = partly x range

  abbrev r : Float
  r = reduced x range

  second_near : Close 1 (val r) (fr (num v * den b + minus b * den v - plus b * den v) (den v * den b) (mul-pos (den_pos v) (den_pos b)))
  unfolding second
  second_near =
      let p = (partly_rel x range).pos in
      let h = (reduced_rel x range).near in
      record { le = rw (← top_is p) h.le; ge = rw (← top_is p) h.ge }
    where
      top_is : T (positive v) → plus v * den b + minus b * den v - (minus v * den b + plus b * den v) ≡ num v * den b + minus b * den v - plus b * den v
      top_is p = rw (plus_positive v p, minus_positive v p) (ap (λ (z : ℕ). num v * den b + minus b * den v - z) (drop (den b) (plus b * den v)))
        where
          drop : (d y : ℕ) → 0 * d + y ≡ y
          drop d y = omega arith

  second_order : plus b * den v ≤ num v * den b + minus b * den v
  second_order =
      let p = (partly_rel x range).pos in
      let h = (gap₂ x range).order in
      ordered (num v * den b + minus b * den v) (plus b * den v) (den b) (rw (plus_positive v p, minus_positive v p) at h)
    where
      ordered : (P N d : ℕ) → 0 * d + N < P → N ≤ P
      ordered P N d h = omega arith

  v_one : val v ⊑ nat 1
  v_one = million (num v) (den v) 140000100 (lit≤ tt) (v_hi x range)

  r_one : val r ⊑ nat 1
  r_one = million (num r) (den r) 140020100 (lit≤ tt) (r_hi x range)

  -- a rounding of e is at most 1/2, so e is at most 1
  e_one : fr (num v * den b + minus b * den v - plus b * den v) (den v * den b) (mul-pos (den_pos v) (den_pos b)) ⊑ nat 1
  e_one =
      let p = (partly_rel x range).pos in
      let h = (gap₂ x range).most in
      million (num v * den b + minus b * den v - plus b * den v) (den v * den b) 140020000 (lit≤ tt) (cut (num v * den b + minus b * den v) (plus b * den v) (den b) (140020000 * (den v * den b)) (rw (plus_positive v p, minus_positive v p) at h))
    where
      cut : (P N d B : ℕ) → (P - (0 * d + N)) * 10000000000 ≤ B → (P - N) * 10000000000 ≤ B
      cut P N d B h = omega arith

  first_near : Close 1 (val v) (fr (plus x * den a + minus a * den x - (minus x * den a + plus a * den x)) (den x * den a) (mul-pos (den_pos x) (den_pos a)))
  unfolding first
  first_near = let h = (partly_rel x range).near in record { le = h.le; ge = h.ge }

  d_one : fr (plus x * den a + minus a * den x - (minus x * den a + plus a * den x)) (den x * den a) (mul-pos (den_pos x) (den_pos a)) ⊑ nat 1
  d_one = million (plus x * den a + minus a * den x - (minus x * den a + plus a * den x)) (den x * den a) remainder_most (lit≤ tt) (gap₁ x range).most

  b_one : (n : ℕ) → n * 1000000 ≤ den b → over_den n b ⊑ nat 1
  b_one n h = omega arith

  up : x⁺ ⊞ over_den (minus a) a ⊞ low_exact (zero_steps - u) ⊑ x⁻ ⊞ over_den (plus a) a ⊞ low_exact (u - zero_steps) ⊞ val r ⊞ off
  up = gap_up (plus x) (minus x) (den x) (plus a) (minus a) (den a) (num v) (den v) (plus b) (minus b) (den b) ((u - zero_steps) * low_top) ((zero_steps - u) * low_top) (2 ^ 92) (num r) (den r)
      (den_pos x) (den_pos a) (den_pos v) (den_pos b) (pow_pos 92) (den_pos r) first_near (le_of_lt (gap₁ x range).order) d_one v_one second_near second_order e_one r_one
      (low_plus_near x range) (low_minus_near x range) (b_one (plus b) (b_plus x range)) (b_one (minus b) (b_minus x range)) (low_one (u - zero_steps) (plus_few x range)) (low_one (zero_steps - u) (minus_few x range))

  down : x⁻ ⊞ over_den (plus a) a ⊞ low_exact (u - zero_steps) ⊞ val r ⊑ x⁺ ⊞ over_den (minus a) a ⊞ low_exact (zero_steps - u) ⊞ off
  down = gap_down (plus x) (minus x) (den x) (plus a) (minus a) (den a) (num v) (den v) (plus b) (minus b) (den b) ((u - zero_steps) * low_top) ((zero_steps - u) * low_top) (2 ^ 92) (num r) (den r)
      (den_pos x) (den_pos a) (den_pos v) (den_pos b) (pow_pos 92) (den_pos r) first_near (le_of_lt (gap₁ x range).order) d_one v_one second_near second_order e_one r_one
      (low_plus_near x range) (low_minus_near x range) (b_one (plus b) (b_plus x range)) (b_one (minus b) (b_minus x range)) (low_one (u - zero_steps) (plus_few x range)) (low_one (zero_steps - u) (minus_few x range))

  same_plus : (over_den (plus a) a ⊞ low_exact (u - zero_steps)).top * step.bot ≡ (times (u - zero_steps) step).top * (over_den (plus a) a ⊞ low_exact (u - zero_steps)).bot
  same_plus = same (u - zero_steps) (plus a) (den a) (den_pos a) (high_good x range).plus_is

  same_minus : (over_den (minus a) a ⊞ low_exact (zero_steps - u)).top * step.bot ≡ (times (zero_steps - u) step).top * (over_den (minus a) a ⊞ low_exact (zero_steps - u)).bot
  same_minus = same (zero_steps - u) (minus a) (den a) (den_pos a) (high_good x range).minus_is

  pub reduce_up : x⁺ ⊞ times (zero_steps - u) step ⊑ x⁻ ⊞ times (u - zero_steps) step ⊞ val r ⊞ off
  reduce_up =
      let p = over_den (plus a) a in
      let n = over_den (minus a) a in
      let cp = low_exact (u - zero_steps) in
      let cn = low_exact (zero_steps - u) in
      ⊑_trans (x⁺ ⊞ times (zero_steps - u) step) (x⁺ ⊞ n ⊞ cn) (x⁻ ⊞ times (u - zero_steps) step ⊞ val r ⊞ off) (swap' x⁺ n cn (times (zero_steps - u) step) (le_of_eq (sym same_minus)))
      (⊑_trans (x⁺ ⊞ n ⊞ cn) (x⁻ ⊞ p ⊞ cp ⊞ val r ⊞ off) (x⁻ ⊞ times (u - zero_steps) step ⊞ val r ⊞ off) up
      (mono_left (x⁻ ⊞ p ⊞ cp ⊞ val r) (x⁻ ⊞ times (u - zero_steps) step ⊞ val r) off (mono_left (x⁻ ⊞ p ⊞ cp) (x⁻ ⊞ times (u - zero_steps) step) (val r) (swap x⁻ p cp (times (u - zero_steps) step) (le_of_eq same_plus)))))

  pub reduce_down : x⁻ ⊞ times (u - zero_steps) step ⊞ val r ⊑ x⁺ ⊞ times (zero_steps - u) step ⊞ off
  reduce_down =
      let p = over_den (plus a) a in
      let n = over_den (minus a) a in
      let cp = low_exact (u - zero_steps) in
      let cn = low_exact (zero_steps - u) in
      ⊑_trans (x⁻ ⊞ times (u - zero_steps) step ⊞ val r) (x⁻ ⊞ p ⊞ cp ⊞ val r) (x⁺ ⊞ times (zero_steps - u) step ⊞ off)
      (mono_left (x⁻ ⊞ times (u - zero_steps) step) (x⁻ ⊞ p ⊞ cp) (val r) (swap' x⁻ p cp (times (u - zero_steps) step) (le_of_eq (sym same_plus))))
      (⊑_trans (x⁻ ⊞ p ⊞ cp ⊞ val r) (x⁺ ⊞ n ⊞ cn ⊞ off) (x⁺ ⊞ times (zero_steps - u) step ⊞ off) down
      (mono_left (x⁺ ⊞ n ⊞ cn) (x⁺ ⊞ times (zero_steps - u) step) off (swap x⁺ n cn (times (zero_steps - u) step) (le_of_eq same_minus))))
