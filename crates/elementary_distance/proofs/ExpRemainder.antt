-- The remainder of the exponential's reduction: with m = u - zero_steps exactly, m * hi exactly, and m * lo rounded, v = x - m * hi and r = v - m * lo are each one rounding of a
-- difference that lies between 0.00199 and 0.01401. So r is above zero and never tiny, whatever the signs of x and m. Assumes nothing.
use mathlib.Core.Path.{◌≡◌, ap, ap₂, ◌∙◌}
use Prim.Native.Nat.{ℕ, ◌+◌, ◌-◌, ◌*◌, ◌^◌, ◌≤◌, ◌<◌}
use native.Mathlib.Nat.{mul-pos, mul-le-mul_right, le_of_mul-le-mul_right}
use native.Mathlib.Omega.{arith}
use lib.Dec.{lit≤}
use lib.Ieee.{Float, binary64, sub, mul}
use lib.Ieee.Positive.{num, den, den_pos, positive-finite}
use Rattle.numerics.specs.Frac.{Frac, Close}
use Rattle.numerics.specs.Round.{val, Rel, Normal, round_rel}
use Rattle.numerics.specs.EitherSign.{plus, minus, plus_positive, minus_positive, sub_signed}
use Rattle.elementary_exp.specs.Exp.{step_high, step_low, counted_of, steps_of, remainder_of}
use Rattle.elementary_exp.specs.Range.{InRange}
use Rattle.elementary_exp.proofs.ExpRange.{ratio}
use Rattle.elementary_exp.proofs.ExpSteps.{Reach, steps_reach, counted_value, crude, normal_crude}
use Rattle.elementary_exp.proofs.ExpConstants.{far_above, far_below, far_steps, hi, hi_is, high_top, lo, lo_is, remainder_least, remainder_most, start, start_is, step_least, step_most, zero_steps}
use Rattle.elementary_distance.proofs.ExpParts.{Counted, counted, High, high_of, over_den, low_exact, LowAt, low_of, low_small}

-- ---- a difference P - N over B, between l and h parts in 10 ^ 10, rounded once
pub record Between (l h P N B : ℕ) : Type 0 where
  pub order : N < P
  pub least : l * B ≤ (P - N) * 10000000000
  pub most : (P - N) * 10000000000 ≤ h * B

between : (l h P N B : ℕ) → 0 < B → 1 ≤ l → N * 10000000000 + l * B ≤ P * 10000000000 → P * 10000000000 ≤ N * 10000000000 + h * B → Between l h P N B
between l h P N B B0 L a b = record { order = omega (arith, mul-le-mul_right B L); least = omega arith; most = omega arith }

normal_of : (l h P N B : ℕ) (B0 : 0 < B) → 1 ≤ l → h ≤ 1000000000 → Between l h P N B → Normal (record { top = P - N; bot = B; good = B0 })
normal_of l h P N B B0 L H b = normal_crude (record { top = P - N; bot = B; good = B0 }) (low (P - N) B l L b.least) (high (P - N) B h H b.most)
  where
    low : (d B l : ℕ) → 1 ≤ l → l * B ≤ d * 10000000000 → B ≤ d * 2 ^ 40
    low d B l L h = omega (arith, mul-le-mul_right B L)

    high : (d B h : ℕ) → h ≤ 1000000000 → d * 10000000000 ≤ h * B → d ≤ B * 2 ^ 40
    high d B h H l = omega (arith, mul-le-mul_right B H)

round_hi : (N M X B h : ℕ) → 0 < B → h ≤ 1000000000 → N * B * 10000000 ≤ X * M * 10000001 → X * 10000000000 ≤ h * B → N * 10000000000 ≤ (h + 100) * M
round_hi N M X B h P l a b = le_of_mul-le-mul_right {k = B} (omega (arith, a, mul-le-mul_right M b, mul-le-mul_right (B * M) l)) P

round_lo : (N M X B h : ℕ) → 0 < B → h ≤ 1000000000 → X * M * 10000000 ≤ N * B * 10000001 → (h + 100) * B ≤ X * 10000000000 → h * M ≤ N * 10000000000
round_lo N M X B h P l a b = le_of_mul-le-mul_right {k = B} (omega (arith, a, mul-le-mul_right M b, mul-le-mul_right (B * M) l)) P

first_lo : (xp xn D ap an E i j : ℕ) → xn * 10000000000 + i * D * step_most + remainder_least * D ≤ xp * 10000000000 + j * D * step_least → ap * 10000000000 ≤ i * E * step_most → j * E * step_least ≤ an * 10000000000
    → (xn * E + ap * D) * 10000000000 + remainder_least * (D * E) ≤ (xp * E + an * D) * 10000000000
first_lo xp xn D ap an E i j h a b = omega (arith, mul-le-mul_right E h, mul-le-mul_right D a, mul-le-mul_right D b)

first_hi : (xp xn D ap an E i j : ℕ) → xp * 10000000000 + j * D * step_most ≤ xn * 10000000000 + i * D * step_least + remainder_most * D → i * E * step_least ≤ ap * 10000000000 → an * 10000000000 ≤ j * E * step_most
    → (xp * E + an * D) * 10000000000 ≤ (xn * E + ap * D) * 10000000000 + remainder_most * (D * E)
first_hi xp xn D ap an E i j h a b = omega (arith, mul-le-mul_right E h, mul-le-mul_right D a, mul-le-mul_right D b)

module _ (x : Float) (range : InRange x) where
  abbrev u : ℕ
  u = steps_of (counted_of x)

  reach : Reach (plus x) (minus x) (den x) u
  reach = steps_reach x range

  c : Counted u (sub binary64 (counted_of x) start)
  c = counted u (counted_of x) reach.some reach.few (counted_value x range)

  pub high_part : Float
  high_part = mul binary64 (sub binary64 (counted_of x) start) hi

  pub low_part : Float
  low_part = mul binary64 (sub binary64 (counted_of x) start) lo

  pub high_good : High u high_part
  unfolding high_part
  high_good = high_of u (sub binary64 (counted_of x) start) c

  low_good : LowAt (u - zero_steps) (zero_steps - u) low_part
  unfolding low_part
  low_good = low_of u (sub binary64 (counted_of x) start) c

  pub low_plus_near : Close 1 (over_den (plus low_part) low_part) (low_exact (u - zero_steps))
  low_plus_near = low_good.plus_near

  pub low_minus_near : Close 1 (over_den (minus low_part) low_part) (low_exact (zero_steps - u))
  low_minus_near = low_good.minus_near

  pub plus_few : u - zero_steps ≤ far_steps
  plus_few = far_above u reach.few

  pub minus_few : zero_steps - u ≤ far_steps
  minus_few = far_below u reach.some

  -- ---- x - m * hi
  pub partly : Float
  partly = sub binary64 x high_part

  hi_plus : (plus high_part * 10000000000 ≤ (u - zero_steps) * den high_part * step_most) × ((u - zero_steps) * den high_part * step_least ≤ plus high_part * 10000000000)
  hi_plus =
      let a = high_part in
      let i = u - zero_steps in (
        ratio (plus a) (i * den a) (2 ^ 40) high_top step_most 10000000000 (lit≤ tt) (omega (arith, high_good.plus_is)) (lit≤ tt),
        ratio (i * den a) (plus a) high_top (2 ^ 40) 10000000000 step_least (lit≤ tt) (omega (arith, high_good.plus_is)) (lit≤ tt),
      )

  hi_minus : (minus high_part * 10000000000 ≤ (zero_steps - u) * den high_part * step_most) × ((zero_steps - u) * den high_part * step_least ≤ minus high_part * 10000000000)
  hi_minus =
      let a = high_part in
      let j = zero_steps - u in (
        ratio (minus a) (j * den a) (2 ^ 40) high_top step_most 10000000000 (lit≤ tt) (omega (arith, high_good.minus_is)) (lit≤ tt),
        ratio (j * den a) (minus a) high_top (2 ^ 40) 10000000000 step_least (lit≤ tt) (omega (arith, high_good.minus_is)) (lit≤ tt),
      )

  pub gap₁ : Between remainder_least remainder_most (plus x * den high_part + minus high_part * den x) (minus x * den high_part + plus high_part * den x) (den x * den high_part)
  gap₁ =
      let a = high_part in
      between remainder_least remainder_most (plus x * den a + minus a * den x) (minus x * den a + plus a * den x) (den x * den a) (mul-pos (den_pos x) (den_pos a)) (lit≤ tt)
      (first_lo (plus x) (minus x) (den x) (plus a) (minus a) (den a) (u - zero_steps) (zero_steps - u) reach.far hi_plus.0 hi_minus.1)
      (first_hi (plus x) (minus x) (den x) (plus a) (minus a) (den a) (u - zero_steps) (zero_steps - u) reach.near hi_plus.1 hi_minus.0)

  unfoldable pub first : Frac
  first = record {
    top = plus x * den high_part + minus high_part * den x - (minus x * den high_part + plus high_part * den x);
    bot = den x * den high_part;
    good = mul-pos (den_pos x) (den_pos high_part);
  }

  pub partly_rel : Rel 1 partly first
  unfolding partly first
  partly_rel =
      let a = high_part in
      rw (sub_signed binary64 x a range.number high_good.number gap₁.order)
      (round_rel first (normal_of remainder_least remainder_most (plus x * den a + minus a * den x) (minus x * den a + plus a * den x) (den x * den a) (mul-pos (den_pos x) (den_pos a)) (lit≤ tt) (lit≤ tt) gap₁))

  pub v_hi : num partly * 10000000000 ≤ 140000100 * den partly
  unfolding first
  v_hi = round_hi (num partly) (den partly) first.top first.bot remainder_most first.good (lit≤ tt) (crude (val partly) first partly_rel.near.le) gap₁.most

  v_lo : 19999900 * den partly ≤ num partly * 10000000000
  unfolding first
  v_lo = round_lo (num partly) (den partly) first.top first.bot 19999900 first.good (lit≤ tt) (crude first (val partly) partly_rel.near.ge) gap₁.least

  -- ---- less m * lo
  pub b_plus : plus low_part * 1000000 ≤ den low_part
  b_plus = low_small (plus low_part) low_part (u - zero_steps) plus_few low_plus_near.le

  pub b_minus : minus low_part * 1000000 ≤ den low_part
  b_minus = low_small (minus low_part) low_part (zero_steps - u) minus_few low_minus_near.le

  pub reduced : Float
  reduced = sub binary64 partly low_part

  pub gap₂ : Between 19980000 140020000 (plus partly * den low_part + minus low_part * den partly) (minus partly * den low_part + plus low_part * den partly) (den partly * den low_part)
  gap₂ =
      let v = partly in
      let b = low_part in
      between 19980000 140020000 (plus v * den b + minus b * den v) (minus v * den b + plus b * den v) (den v * den b) (mul-pos (den_pos v) (den_pos b)) (lit≤ tt)
      (rw (plus_positive v partly_rel.pos, minus_positive v partly_rel.pos) (second_lo (num v) (den v) (plus b) (minus b) (den b) v_lo b_plus))
      (rw (plus_positive v partly_rel.pos, minus_positive v partly_rel.pos) (second_hi (num v) (den v) (plus b) (minus b) (den b) v_hi b_minus))
    where
      second_lo : (G D p n E : ℕ) → 19999900 * D ≤ G * 10000000000 → p * 1000000 ≤ E → (0 * E + p * D) * 10000000000 + 19980000 * (D * E) ≤ (G * E + n * D) * 10000000000
      second_lo G D p n E h k = omega (arith, mul-le-mul_right E h, mul-le-mul_right D k)

      second_hi : (G D p n E : ℕ) → G * 10000000000 ≤ 140000100 * D → n * 1000000 ≤ E → (G * E + n * D) * 10000000000 ≤ (0 * E + p * D) * 10000000000 + 140020000 * (D * E)
      second_hi G D p n E h k = omega (arith, mul-le-mul_right E h, mul-le-mul_right D k)

  unfoldable pub second : Frac
  second = record {
    top = plus partly * den low_part + minus low_part * den partly - (minus partly * den low_part + plus low_part * den partly);
    bot = den partly * den low_part;
    good = mul-pos (den_pos partly) (den_pos low_part);
  }

  pub reduced_rel : Rel 1 reduced second
  unfolding reduced second
  reduced_rel =
      let v = partly in
      let b = low_part in
      rw (sub_signed binary64 v b (positive-finite v partly_rel.pos) low_good.number gap₂.order)
      (round_rel second (normal_of 19980000 140020000 (plus v * den b + minus b * den v) (minus v * den b + plus b * den v) (den v * den b) (mul-pos (den_pos v) (den_pos b)) (lit≤ tt) (lit≤ tt) gap₂))

  pub r_hi : num reduced * 10000000000 ≤ 140020100 * den reduced
  unfolding second
  r_hi = round_hi (num reduced) (den reduced) second.top second.bot 140020000 second.good (lit≤ tt) (crude (val reduced) second reduced_rel.near.le) gap₂.most

  pub r_lo : 19979900 * den reduced ≤ num reduced * 10000000000
  unfolding second
  r_lo = round_lo (num reduced) (den reduced) second.top second.bot 19979900 second.good (lit≤ tt) (crude second (val reduced) reduced_rel.near.ge) gap₂.least

  -- it is what the steps work out
  pub remainder_is : remainder_of x (counted_of x) ≡ reduced
  unfolding remainder_of reduced partly high_part low_part
  remainder_is =
      ap (λ (o : Float). sub binary64 (sub binary64 x (mul binary64 (sub binary64 (counted_of x) o) step_high)) (mul binary64 (sub binary64 (counted_of x) o) step_low)) start_is
      ∙ ap₂ (λ (h l : Float). sub binary64 (sub binary64 x (mul binary64 (sub binary64 (counted_of x) start) h)) (mul binary64 (sub binary64 (counted_of x) start) l)) hi_is lo_is
