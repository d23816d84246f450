-- `round` leaves a value of the format as it is (`round_fixes`), so a value on one side of a fraction stays on that side of the rounded fraction
-- (`value_le_round`, `round_le_value`), and a zero is one (`zero_val`), and a value strictly beyond the rounded fraction is strictly beyond the fraction (`above_round`, `below_round`). Assumes nothing.
use Rattle.std.specs.Prelude.{◌≡◌, ℕ, zero, suc, ◌+◌, ◌-◌, ◌*◌, ◌^◌, ◌≤◌, ◌<◌, true, false, pos, negsuc, T, Float}
use Rattle.std.proofs.Common.{sym, ap, ◌∙◌, subst, arith, inl, inr, lit≤, pow-add, pow_pos}
use native.Mathlib.Nat.{lt_of_lt_of_le, lt_of_not-le, not-le_of_lt, mul-le-mul_right, lt_irrefl, mul-lt-mul_of_pos_right, eq-zero-or-pos, mul-pos, zero-mul}
use Rattle.std.specs.Float.{nan, inf, fin, Format, binary64}
use Rattle.std.specs.Float.Ieee.{emax, low, round, fits}
use Rattle.std.specs.Float.Ieee.Exact.{HasValue, round_exact}
use Rattle.std.specs.Float.Ieee.Nearest.{closest}
use Rattle.std.specs.Float.Ieee.Order.{drop, kept, round_mono}
use Rattle.std.specs.Float.Ieee.Scale.{grid, overflow, round_val}
use Rattle.std.specs.Float.Ieee.Positive.{num, den, positive, den_pos, positive_of_value, values_of_le, own_value}
use Rattle.numerics.specs.Frac.{Frac, ◌⊑◌}
use Rattle.numerics.specs.Round.{val, num_pos, closest_above}
use Rattle.numerics.specs.Held.{held, pow_back}

pub round_fixes : (f : Format) (y : Float) → T (positive y) → T (fits f y) → HasValue (round f false (num y) (den y)) false (num y) (den y)
round_fixes f nan p t = absurd p
round_fixes f (inf s) p t = absurd p
round_fixes f (fin true m e) p t = absurd p
round_fixes f (fin false zero e) p t = absurd p
round_fixes f (fin false (suc m) (pos k)) p t =
    let s = held f false m (pos k) t in
    round_exact f false (suc m * 2 ^ k) 1 (suc m) (k + low f) (lit≤ tt) s.0
    (room (suc m) (2 ^ k) (2 ^ low f) (2 ^ suc (emax f)) (2 ^ (k + low f)) (2 ^ (low f + suc (emax f))) (pow_pos (low f)) (pow-add 2 k (low f)) (pow-add 2 (low f) (suc (emax f))) s.2)
    (rw pow-add (omega arith))
  where
    room : (m u l e kl le : ℕ) → 0 < l → kl ≡ u * l → le ≡ l * e → m * u < e * 1 → m * kl < le
    room m u l e kl le L x y h = rw (x, y) (omega (arith, mul-lt-mul_of_pos_right h L))
round_fixes f (fin false (suc m) (negsuc k)) p t =
    let s = held f false m (negsuc k) t in
    let j = low f - suc k in
    let l : j + suc k ≡ low f = native.Mathlib.Nat.sub-add_cancel (pow_back (suc k) (low f) s.1) in
    let e : 2 ^ low f ≡ 2 ^ j * 2 ^ suc k = ap (λ (z : ℕ). 2 ^ z) (sym l) ∙ pow-add 2 j (suc k) in
    round_exact f false (suc m * 1) (2 ^ suc k) (suc m) j (pow_pos (suc k)) s.0
    (room (suc m) (2 ^ j) (2 ^ suc k) (2 ^ low f) (2 ^ suc (emax f)) (2 ^ (low f + suc (emax f))) (pow_pos j) e (pow-add 2 (low f) (suc (emax f))) s.2)
    (rw e (omega arith))
  where
    room : (m j d l e le : ℕ) → 0 < j → l ≡ j * d → le ≡ l * e → m * 1 < e * d → m * j < le
    room m j d l e le J x y h = rw (y, x) (omega (arith, mul-lt-mul_of_pos_right h J))

-- ---- values on one side of a fraction
module _ (f : Format) (y : Float) (p : T (positive y)) (t : T (fits f y)) (z : Frac) (r : T (positive (round f false z.top z.bot))) where
  self : T (positive (round f false (num y) (den y)))
  self = positive_of_value (round f false (num y) (den y)) (num y) (den y) (round_fixes f y p t) (num_pos y p)

  pub value_le_round : val y ⊑ z → val y ⊑ val (round f false z.top z.bot)
  value_le_round h =
      let v = round f false z.top z.bot in
      values_of_le (round f false (num y) (den y)) v (num y) (den y) (num v) (den v) self r (round_fixes f y p t) (own_value v r) (round_mono f (num y) (den y) z.top z.bot (den_pos y) z.good h)

  pub round_le_value : z ⊑ val y → val (round f false z.top z.bot) ⊑ val y
  round_le_value h =
      let v = round f false z.top z.bot in
      values_of_le v (round f false (num y) (den y)) (num v) (den v) (num y) (den y) r self (own_value v r) (round_fixes f y p t) (round_mono f z.top z.bot (num y) (den y) z.good (den_pos y) h)

  pub above_round : num (round f false z.top z.bot) * den y < num y * den (round f false z.top z.bot) → z.top * den y < num y * z.bot
  above_round h = lt_of_not-le (λ g. not-le_of_lt h (value_le_round g))

  pub below_round : num y * den (round f false z.top z.bot) < num (round f false z.top z.bot) * den y → num y * z.bot < z.top * den y
  below_round h = lt_of_not-le (λ g. not-le_of_lt h (round_le_value g))

-- ---- a zero rounds to zero
closest_zero : (u : ℕ) → 0 < u → closest 0 u ≡ 0
closest_zero u U = elim (eq-zero-or-pos (closest 0 u)) [ inl z ↦ z | inr p ↦ absurd (clash (closest 0 u) u U p (closest_above 0 u U)) ]
  where
    clash : (q u : ℕ) → 0 < u → 0 < q → 2 * (q * u) ≤ 2 * 0 + u → ⊥
    clash q u U Q h = omega (arith, mul-le-mul_right u Q)

zero_grid : (c : ℕ) → 0 < c → grid binary64 0 c ≡ 0
zero_grid c C =
    ap (λ (z : ℕ). kept 53 z c * 2 ^ drop 53 z c) (zero-mul (2 ^ 1074))
    ∙ ap (λ (z : ℕ). z * 2 ^ drop 53 0 c) (closest_zero (c * 2 ^ drop 53 0 c) (mul-pos C (pow_pos (drop 53 0 c))))
    ∙ zero-mul (2 ^ drop 53 0 c)

pub zero_val : (c : ℕ) → 0 < c → HasValue (round binary64 false 0 c) false 0 (2 ^ 1074)
zero_val c C = subst (λ (z : ℕ). HasValue (round binary64 false 0 c) false z (2 ^ 1074)) (zero_grid c C) (round_val binary64 0 c (subst (λ (z : ℕ). z < overflow binary64) (sym (zero_grid c C)) (pow_pos 2098)))
