-- The count of steps in the exponential's reduction, for a double x from -700 to 700 and not smaller than 2 ^ -54: w = 2 ^ 52 + u is the sum of
-- x * 64 / ln 2 + 131071.25 and 2 ^ 52, each operation rounded. So u is a whole number from `fewest_steps` to `most_steps`, and x less (u - zero_steps) * ln 2 / 64 lies between 0.002 and 0.014. Assumes nothing.
use Rattle.std.proofs.Common.{◌≡◌, ℕ, ◌+◌, ◌-◌, ◌*◌, ◌%◌, ◌^◌, ◌<◌, ◌≤◌, true, false, not, T, ℤ, sym, ap, subst, ap₂, zero-le, le_trans, le_of_eq, le_refl, lt_of_lt_of_le, mul-le-mul_right, mul_assoc, mul-le-mul_left, mul-pos, le_of_mul-le-mul_right, arith, lit≤, lt→ltb}
use lib.Ieee.{Float, nan, inf, fin, binary64, up, down, add, mul, neg, to_bits, is_nan}
use lib.Ieee.Fits.{down_pos}
use lib.Ieee.Exact.{HasValue}
use lib.Ieee.Scale.{finite}
use lib.Ieee.Positive.{num, den, positive, den_pos, first_pos}
use Rattle.numerics.specs.Frac.{Frac, ◌⊠◌, big, small, Under}
use Rattle.numerics.specs.Round.{val, Rel, Normal, round_rel}
use Rattle.numerics.specs.Rel.{mul_rel}
use Rattle.numerics.specs.EitherSign.{plus, minus, plus_positive, minus_positive, add_signed, mul_neg, plus_neg, minus_neg, den_neg, finite_neg}
use Rattle.numerics.specs.Patterns.{positive_number}
use Rattle.numerics.specs.Whole.{unit52, rounded_positive, rounded_whole, rounded_up, rounded_down}
use Rattle.elementary_exp.proofs.ExpRange.{ratio, above, below, far_of, near_of, few_of, some_of}
use Rattle.elementary_exp.specs.Exp.{steps_per_unit, shift, counted_of, steps_of}
use Rattle.elementary_exp.specs.Range.{InRange}
use Rattle.elementary_exp.proofs.ExpConstants.{fewest_steps, most_steps, per_unit_is, per_unit, per_unit_high, per_unit_low, per_unit_top, remainder_least, remainder_most, rounder_is, shift_is, shift_top, shifted, slope_high, slope_low, slope_most, start_low, start_most, step_least, step_most, zero_steps}

pub plus_le : (x : Float) → plus x ≤ num x
plus_le nan = zero-le
plus_le (inf s) = zero-le
plus_le (fin false m e) = le_refl (m * up e)
plus_le (fin true m e) = zero-le

pub minus_le : (x : Float) → minus x ≤ num x
minus_le nan = zero-le
minus_le (inf s) = zero-le
minus_le (fin false m e) = zero-le
minus_le (fin true m e) = le_refl (m * up e)

-- ---- x * 64 / ln 2, each part between 92.332482 and 92.332483 times that of x
record Scaled (x q : Float) : Type 0 where
  number : T (finite q)
  plus_hi : plus q * den x * 1000000 ≤ plus x * den q * per_unit_high
  plus_lo : plus x * den q * per_unit_low ≤ plus q * den x * 1000000
  minus_hi : minus q * den x * 1000000 ≤ minus x * den q * per_unit_high
  minus_lo : minus x * den q * per_unit_low ≤ minus q * den x * 1000000

module _ (x : Float) (p : T (positive x)) (x-hi : num x ≤ 700 * den x) (x-lo : den x ≤ num x * 2 ^ 54) where
  q_rel : Rel 1 (mul binary64 x per_unit) (val x ⊠ val per_unit)
  q_rel = mul_rel x per_unit p tt (record {
    least = le_trans (ratio (den x) (num x) 1 (2 ^ 54) (per_unit_top * 2 ^ 1022) (2 ^ 45) (lit≤ tt) (omega arith) (lit≤ tt)) (le_of_eq (sym (mul_assoc (num x) per_unit_top (2 ^ 1022))));
    most = le_trans (ratio (num x) (den x) 1 700 (2 ^ 45 * 2 ^ 1023) per_unit_top (lit≤ tt) (omega arith) (lit≤ tt)) (le_of_eq (sym (mul_assoc (den x) (2 ^ 45) (2 ^ 1023))));
  })

  q_hi : num (mul binary64 x per_unit) * den x * 1000000 ≤ num x * den (mul binary64 x per_unit) * per_unit_high
  unfolding small big
  q_hi =
      let t = mul binary64 x per_unit in
      ratio (num t * den x) (num x * den t) (2 ^ 45 * small ^ 1) (per_unit_top * big ^ 1) per_unit_high 1000000 (lit≤ tt)
      (turn (num t) (den x) (num x) (den t) (2 ^ 45) per_unit_top (small ^ 1) (big ^ 1) q_rel.near.le) (lit≤ tt)
    where
      turn : (T D Y E a c s b : ℕ) → T * (D * a) * s ≤ Y * c * E * b → T * D * (a * s) ≤ Y * E * (c * b)
      turn T D Y E a c s b h = omega arith

  q_lo : num x * den (mul binary64 x per_unit) * per_unit_low ≤ num (mul binary64 x per_unit) * den x * 1000000
  unfolding small big
  q_lo =
      let t = mul binary64 x per_unit in
      ratio (num x * den t) (num t * den x) (per_unit_top * small ^ 1) (2 ^ 45 * big ^ 1) 1000000 per_unit_low (lit≤ tt)
      (turn (num t) (den x) (num x) (den t) (2 ^ 45) per_unit_top (small ^ 1) (big ^ 1) q_rel.near.ge) (lit≤ tt)
    where
      turn : (T D Y E a c s b : ℕ) → Y * c * E * s ≤ T * (D * a) * b → Y * E * (c * s) ≤ T * D * (a * b)
      turn T D Y E a c s b h = omega arith

  scaled_positive : Scaled x (mul binary64 x per_unit)
  scaled_positive =
      let t = mul binary64 x per_unit in
      let pt = q_rel.pos in
      record {
        number = lib.Ieee.Positive.positive-finite t pt;
        plus_hi = rw (plus_positive t pt, plus_positive x p) q_hi;
        plus_lo = rw (plus_positive t pt, plus_positive x p) q_lo;
        minus_hi = rw (minus_positive t pt) (none (den x) (minus x * den t * per_unit_high));
        minus_lo = rw (minus_positive x p) (none' (den t) (minus t * den x * 1000000));
      }
    where
      none : (d r : ℕ) → 0 * d * 1000000 ≤ r
      none d r = omega arith

      none' : (d r : ℕ) → 0 * d * per_unit_low ≤ r
      none' d r = omega arith

flip : (m : ℕ) (e : ℤ) (v : Float) → Scaled (fin false m e) v → Scaled (fin true m e) (neg v)
flip m e v r = record {
  number = finite_neg v r.number;
  plus_hi = rw (plus_neg v, den_neg v) r.minus_hi;
  plus_lo = rw (plus_neg v, den_neg v) r.minus_lo;
  minus_hi = rw (minus_neg v, den_neg v) r.plus_hi;
  minus_lo = rw (minus_neg v, den_neg v) r.plus_lo;
}

-- a size above zero, and the sign plus
sized : (m : ℕ) (e : ℤ) → down e ≤ m * up e * 2 ^ 54 → T (positive (fin false m e))
sized m e h = lt→ltb 0 m (first_pos m (up e) (first_pos (m * up e) (2 ^ 54) (lt_of_lt_of_le (down_pos e) h)))

scaled : (x : Float) → InRange x → Scaled x (mul binary64 x per_unit)
unfolding neg
scaled nan r = absurd r.number
scaled (inf s) r = absurd r.number
scaled (fin false m e) r = scaled_positive (fin false m e) (sized m e r.least) r.most r.least
scaled (fin true m e) r =
    subst (λ (v : Float). Scaled (fin true m e) v) (sym (mul_neg binary64 (fin false m e) per_unit tt tt))
    (flip m e (mul binary64 (fin false m e) per_unit) (scaled_positive (fin false m e) (sized m e r.least) r.most r.least))

-- ---- one rounding is less than one part in ten million
pub crude : (p q : Frac) → Under 1 p q → p.top * q.bot * 10000000 ≤ q.top * p.bot * 10000001
unfolding small big
crude p q h = ratio (p.top * q.bot) (q.top * p.bot) (small ^ 1) (big ^ 1) 10000001 10000000 (lit≤ tt) h (lit≤ tt)

pub normal_crude : (q : Frac) → q.bot ≤ q.top * 2 ^ 40 → q.top ≤ q.bot * 2 ^ 40 → Normal q
normal_crude q h k = record { least = le_trans h (mul-le-mul_left q.top (lit≤ tt)); most = le_trans k (mul-le-mul_left q.bot (lit≤ tt)) }

-- ---- `ExpRange` at x = (Xp - Xn) / D, q = (Up - Un) / E, z = Z / F, over the denominator D * E * F
pub record Reach (Xp Xn D k : ℕ) : Type 0 where
  pub far : Xn * 10000000000 + (k - zero_steps) * D * step_most + remainder_least * D ≤ Xp * 10000000000 + (zero_steps - k) * D * step_least
  pub near : Xp * 10000000000 + (zero_steps - k) * D * step_most ≤ Xn * 10000000000 + (k - zero_steps) * D * step_least + remainder_most * D
  pub few : k ≤ most_steps
  pub some : fewest_steps ≤ k

reach : (Xp Xn D Up Un E Z F W k : ℕ) → 0 < D → 0 < E → 0 < F
    → Up * D * 1000000 ≤ Xp * E * per_unit_high → Xp * E * per_unit_low ≤ Up * D * 1000000 → Un * D * 1000000 ≤ Xn * E * per_unit_high → Xn * E * per_unit_low ≤ Un * D * 1000000
    → W + Un * 4 ≡ Up * 4 + shift_top * E → Z * (E * 4) * 10000000 ≤ W * F * 10000001 → W * F * 10000000 ≤ Z * (E * 4) * 10000001
    → k * F * 10000 ≤ Z * 10000 + 5001 * F → Z * 10000 ≤ k * F * 10000 + 5001 * F → Xp ≤ 700 * D → Xn ≤ 700 * D → Reach Xp Xn D k
reach Xp Xn D Up Un E Z F W k D0 E0 F0 p-hi p-lo n-hi n-lo ew z_hi z_lo k-lo k-hi xp xn =
    let Q = D * E * F in
    let Q0 : 0 < Q = mul-pos (mul-pos D0 E0) F0 in
    let xp' = Xp * E * F in
    let xn' = Xn * E * F in
    let up' = Up * D * F in
    let un' = Un * D * F in
    let Z' = Z * D * E in
    let W' = W * D * F in
    let K = k * Q in
    let a : Z' * 10000000 + slope_low * xn' ≤ slope_most * xp' + start_most * Q =
    above Q xp' xn' up' un' Z' W' (omega (arith, mul-le-mul_right F p-hi)) (omega (arith, mul-le-mul_right F n-lo)) (omega (arith, ap (λ (x : ℕ). x * (D * F)) ew)) (omega (arith, mul-le-mul_right D z_hi)) in
    let b : xp' * slope_low + start_low * Q ≤ Z' * 10000001 + slope_high * xn' =
    below Q xp' xn' up' un' Z' W' (omega (arith, mul-le-mul_right F p-lo)) (omega (arith, mul-le-mul_right F n-hi)) (omega (arith, ap (λ (x : ℕ). x * (D * F)) ew)) (omega (arith, mul-le-mul_right D z_lo)) in
    let f : K * 10000 ≤ Z' * 10000 + 5001 * Q = omega (arith, mul-le-mul_right (D * E) k-lo) in
    let g : Z' * 10000 ≤ K * 10000 + 5001 * Q = omega (arith, mul-le-mul_right (D * E) k-hi) in
    let h : xp' ≤ 700 * Q = omega (arith, mul-le-mul_right (E * F) xp) in
    let i : xn' ≤ 700 * Q = omega (arith, mul-le-mul_right (E * F) xn) in
    let e : (k - zero_steps) * Q + zero_steps * Q ≡ K + (zero_steps - k) * Q = level k Q in
    let l : (zero_steps - k) * Q ≤ zero_steps * Q = mul-le-mul_right Q (omega arith) in
    record {
      far = le_of_mul-le-mul_right {k = E * F} (omega (arith, far_of Q xp' xn' Z' K ((k - zero_steps) * Q) ((zero_steps - k) * Q) a f e l h i)) (mul-pos E0 F0);
      near = le_of_mul-le-mul_right {k = E * F} (omega (arith, near_of Q xp' xn' Z' K ((k - zero_steps) * Q) ((zero_steps - k) * Q) b g e l h i)) (mul-pos E0 F0);
      few = le_of_mul-le-mul_right {k = Q} (few_of Q xp' xn' Z' K a f h) Q0;
      some = le_of_mul-le-mul_right {k = Q} (some_of Q xp' xn' Z' K b g i) Q0;
    }
  where
    level : (k Q : ℕ) → (k - zero_steps) * Q + zero_steps * Q ≡ k * Q + (zero_steps - k) * Q
    level k Q =
        let s : k - zero_steps + zero_steps ≡ k + (zero_steps - k) = omega arith in
        omega (arith, ap (λ (x : ℕ). x * Q) s)

-- ---- the sum and its whole part
module _ (x : Float) (r : InRange x) where
  s : Scaled x (mul binary64 x per_unit)
  s = scaled x r

  q : Float
  q = mul binary64 x per_unit

  z : Float
  unfolding q
  z = add binary64 q shifted

  x_plus : plus x ≤ 700 * den x
  x_plus = le_trans (plus_le x) r.most

  x_minus : minus x ≤ 700 * den x
  x_minus = le_trans (minus_le x) r.most

  q_plus : plus q ≤ 65000 * den q
  unfolding q
  q_plus = le_of_mul-le-mul_right {k = den x} (omega (arith, s.plus_hi, mul-le-mul_right (den q) x_plus)) (den_pos x)

  q_minus : minus q ≤ 65000 * den q
  unfolding q
  q_minus = le_of_mul-le-mul_right {k = den x} (omega (arith, s.minus_hi, mul-le-mul_right (den q) x_minus)) (den_pos x)

  W : ℕ
  W = plus q * 4 + shift_top * den q - (minus q * 4 + 0 * den q)

  W-is : W + minus q * 4 ≡ plus q * 4 + shift_top * den q
  unfolding W
  W-is = omega (arith, q_minus)

  W-low : 260000 * den q ≤ W
  unfolding W
  W-low = omega (arith, q_minus, den_pos q)

  W-high : W ≤ 800000 * den q
  unfolding W
  W-high = omega (arith, q_plus)

  exact : Frac
  unfolding q
  exact = record { top = W; bot = den q * 4; good = mul-pos (den_pos q) (lit≤ tt) }

  z_rel : Rel 1 z exact
  unfolding z q exact W
  z_rel = rw (add_signed binary64 q shifted s.number tt (omega (arith, q_minus, den_pos q)))
      (round_rel exact (normal_crude exact (omega (arith, W-low)) (omega (arith, W-high))))

  z_hi : num z * (den q * 4) * 10000000 ≤ W * den z * 10000001
  unfolding exact
  z_hi = crude (val z) exact z_rel.near.le

  z_lo : W * den z * 10000000 ≤ num z * (den q * 4) * 10000001
  unfolding exact
  z_lo = crude exact (val z) z_rel.near.ge

  z_most : num z ≤ 1000000 * den z
  z_most = le_of_mul-le-mul_right {k = den q} (omega (arith, z_hi, mul-le-mul_right (den z) W-high)) (den_pos q)

  z_low : den z ≤ num z
  z_low = le_of_mul-le-mul_right {k = den q} (omega (arith, z_lo, mul-le-mul_right (den z) W-low)) (den_pos q)

  z_is : add binary64 (mul binary64 x steps_per_unit) shift ≡ z
  unfolding z q
  z_is = ap₂ (λ (c d : Float). add binary64 (mul binary64 x c) d) per_unit_is shift_is

  counted_is : counted_of x ≡ add binary64 z unit52
  unfolding counted_of
  counted_is = ap₂ (λ (c d : Float). add binary64 c d) z_is rounder_is

  -- the count as a double: 2 ^ 52 + u
  pub counted_value : HasValue (counted_of x) false (2 ^ 52 + steps_of (counted_of x)) 1
  unfolding steps_of
  counted_value = rw counted_is (rounded_whole z z_rel.pos z_low z_most)

  pub counted_number : T (not (is_nan (counted_of x)))
  counted_number = rw counted_is (positive_number (add binary64 z unit52) (rounded_positive z z_rel.pos z_low z_most))

  pub steps_reach : Reach (plus x) (minus x) (den x) (steps_of (counted_of x))
  unfolding steps_of q
  steps_reach =
      rw counted_is
      (reach (plus x) (minus x) (den x) (plus q) (minus q) (den q) (num z) (den z) W (to_bits binary64 (add binary64 z unit52) % 2 ^ 52) (den_pos x) (den_pos q) (den_pos z)
      s.plus_hi s.plus_lo s.minus_hi s.minus_lo W-is z_hi z_lo (rounded_up z z_rel.pos z_low z_most) (rounded_down z z_rel.pos z_low z_most) x_plus x_minus)
