-- A power of two goes through a rounding in the normal range: if y is 2 ^ i / 2 ^ j times x (`Scaled`), then so are the rounded products with one factor, and the rounded sums of two such pairs;
-- and y is what x times that power rounds to. Assumes nothing.
use Rattle.std.specs.Prelude.{◌≡◌, ℕ, ◌+◌, ◌-◌, ◌*◌, ◌/◌, ◌^◌, ◌≤◌, ◌<◌, false, T, Float}
use Rattle.std.proofs.Common.{sym, ap, ◌∙◌, mul_assoc, mul_right_comm, mul-pos, mul-le-mul_left, arith, pow_pos}
use Rattle.std.proofs.Math.Nat.{eq_of_mul-eq-mul_right}
use Rattle.std.specs.Float.{Format, binary64}
use Rattle.std.specs.Float.Ieee.{prec, low, size, round, add, mul, fits, unlike}
use Rattle.std.specs.Float.Ieee.Fits.{mul-fits}
use Rattle.std.specs.Float.Ieee.Exact.{HasValue}
use Rattle.std.specs.Float.Ieee.Nearest.{closest, closest_same, div_same}
use Rattle.std.specs.Float.Ieee.Order.{drop}
use Rattle.std.specs.Float.Ieee.Scale.{grid, grid_scale, normal_of_fraction, round_val}
use Rattle.std.specs.Float.Ieee.Positive.{num, den, positive, positive-finite, positive_of_value, value→cross}
use Rattle.numerics.specs.Frac.{Frac, ◌⊞◌, ◌⊠◌}
use Rattle.numerics.specs.Round.{val, Normal, num_pos, inside, round_rel}
use Rattle.numerics.specs.Rel.{add_is, mul_is}
use Rattle.numerics.specs.Sign.{negative, no_sign, nonneg_positive}
use Rattle.numerics.specs.Rounding.{times, exact_where_held}
use Rattle.numerics.specs.Spacing.{same_value}

-- r is 2 ^ i / 2 ^ j times q
abbrev pub Ratio : ℕ → ℕ → Frac → Frac → Type 0
Ratio i j q r = r.top * q.bot * 2 ^ j ≡ q.top * r.bot * 2 ^ i

pub ratio_mul : (i j : ℕ) (q r p : Frac) → Ratio i j q r → Ratio i j (q ⊠ p) (r ⊠ p)
ratio_mul i j q r p h = turn q.top q.bot r.top r.bot p.top p.bot (2 ^ i) (2 ^ j) h
  where
    turn : (n d m e p b I J : ℕ) → m * d * J ≡ n * e * I → m * p * (d * b) * J ≡ n * p * (e * b) * I
    turn n d m e p b I J h = omega (arith, ap (λ (z : ℕ). z * (p * b)) h)

pub ratio_add : (i j : ℕ) (q r p s : Frac) → Ratio i j q r → Ratio i j p s → Ratio i j (q ⊞ p) (r ⊞ s)
ratio_add i j q r p s h k = turn q.top q.bot r.top r.bot p.top p.bot s.top s.bot (2 ^ i) (2 ^ j) h k
  where
    turn : (n d m e a b c f I J : ℕ) → m * d * J ≡ n * e * I → c * b * J ≡ a * f * I → (m * f + c * e) * (d * b) * J ≡ (n * b + a * d) * (e * f) * I
    turn n d m e a b c f I J h k = omega (arith, ap (λ (z : ℕ). z * (f * b)) h, ap (λ (z : ℕ). z * (e * d)) k)

-- y is 2 ^ i / 2 ^ j times x, both above zero
pub record Scaled (i j : ℕ) (x y : Float) : Type 0 where
  pub first : T (positive x)
  pub second : T (positive y)
  pub ratio : Ratio i j (val x) (val y)

-- ---- equal fractions have one grid point
grid_same : (f : Format) (a b c d : ℕ) → 0 < b → 0 < d → a * d ≡ c * b → grid f a b ≡ grid f c d
grid_same f a b c d B D e =
    let l = 2 ^ low f in
    let p = prec f in
    let x : a * l * d ≡ c * l * b = mul_right_comm a l d ∙ ap (λ (z : ℕ). z * l) e ∙ mul_right_comm c b l in
    let k : drop p (a * l) b ≡ drop p (c * l) d = ap (λ (z : ℕ). size z - p) (div_same (a * l) b (c * l) d B D x) in
    let j = drop p (c * l) d in
    let y : a * l * (d * 2 ^ j) ≡ c * l * (b * 2 ^ j) = sym (mul_assoc (a * l) d (2 ^ j)) ∙ ap (λ (z : ℕ). z * 2 ^ j) x ∙ mul_assoc (c * l) b (2 ^ j) in
    ap (λ (z : ℕ). closest (a * l) (b * 2 ^ z) * 2 ^ z) k ∙ ap (λ (z : ℕ). z * 2 ^ j) (closest_same (a * l) (b * 2 ^ j) (c * l) (d * 2 ^ j) (mul-pos B (pow_pos j)) (mul-pos D (pow_pos j)) y)

-- ---- two fractions, the second 2 ^ i / 2 ^ j times the first, rounded
module _ (i j : ℕ) (q r : Frac) (Q : Normal q) (R : Normal r) (e : Ratio i j q r) where
  abbrev x : Float
  x = round binary64 false q.top q.bot

  abbrev y : Float
  y = round binary64 false r.top r.bot

  all_digits : (s : Frac) → Normal s → prec binary64 ≤ size (s.top * 2 ^ low binary64 / s.bot)
  all_digits s n = normal_of_fraction binary64 s.top s.bot s.good (floor s.top s.bot (2 ^ 52) (2 ^ 1022) n.least)
    where
      floor : (a c P M : ℕ) → c ≤ a * M → P * c ≤ a * (P * M)
      floor a c P M h = omega (arith, mul-le-mul_left P h)

  grids : grid binary64 r.top r.bot * 2 ^ j ≡ grid binary64 q.top q.bot * 2 ^ i
  grids =
      sym (grid_scale binary64 r.top r.bot j r.good (all_digits r R))
      ∙ grid_same binary64 (r.top * 2 ^ j) r.bot (q.top * 2 ^ i) q.bot r.good q.good (turn r.top (2 ^ j) q.bot q.top (2 ^ i) r.bot e)
      ∙ grid_scale binary64 q.top q.bot i q.good (all_digits q Q)
    where
      turn : (a s d c t b : ℕ) → a * d * s ≡ c * b * t → a * s * d ≡ c * t * b
      turn a s d c t b h = omega arith

  pub scaled_round : Scaled i j (round binary64 false q.top q.bot) (round binary64 false r.top r.bot)
  scaled_round =
      let v = round_val binary64 q.top q.bot (inside q.top q.bot q.good Q.least Q.most) in
      let w = round_val binary64 r.top r.bot (inside r.top r.bot r.good R.least R.most) in
      let g = grid binary64 q.top q.bot in
      let h = grid binary64 r.top r.bot in
      record {
        first = (round_rel q Q).pos;
        second = (round_rel r R).pos;
        ratio = cross (num x) (den x) (num y) (den y) g h (2 ^ 1074) (2 ^ i) (2 ^ j) (pow_pos 1074) (value→cross x g (2 ^ 1074) v) (value→cross y h (2 ^ 1074) w) grids;
      }
    where
      cross : (n d m e g h L I J : ℕ) → 0 < L → n * L ≡ g * d → m * L ≡ h * e → h * J ≡ g * I → m * d * J ≡ n * e * I
      cross n d m e g h L I J P a b c = eq_of_mul-eq-mul_right L P (m * d * J) (n * e * I) (one ∙ ap (λ (z : ℕ). z * (d * J)) b ∙ two ∙ ap (λ (z : ℕ). z * (e * d)) c ∙ three ∙ ap (λ (z : ℕ). z * (e * I)) (sym a) ∙ four)
        where
          one : m * d * J * L ≡ m * L * (d * J)
          one = omega arith

          two : h * e * (d * J) ≡ h * J * (e * d)
          two = omega arith

          three : g * I * (e * d) ≡ g * d * (e * I)
          three = omega arith

          four : n * L * (e * I) ≡ n * e * I * L
          four = omega arith

-- ---- a product with one factor, a sum of two pairs
pub scaled_mul : (i j : ℕ) (x y p : Float) → Scaled i j x y → T (positive p) → Normal (val x ⊠ val p) → Normal (val y ⊠ val p) → Scaled i j (mul binary64 x p) (mul binary64 y p)
scaled_mul i j x y p s P Q R = rw (mul_is binary64 x p s.first P, mul_is binary64 y p s.second P) (scaled_round i j (val x ⊠ val p) (val y ⊠ val p) Q R (ratio_mul i j (val x) (val y) (val p) s.ratio))

pub scaled_add : (i j : ℕ) (x y v w : Float) → Scaled i j x y → Scaled i j v w → Normal (val x ⊞ val v) → Normal (val y ⊞ val w) → Scaled i j (add binary64 x v) (add binary64 y w)
scaled_add i j x y v w s t Q R =
    rw (add_is binary64 x v s.first t.first, add_is binary64 y w s.second t.second) (scaled_round i j (val x ⊞ val v) (val y ⊞ val w) Q R (ratio_add i j (val x) (val y) (val v) (val w) s.ratio t.ratio))

-- ---- the product with the power itself is exact
pub scaled_is : (i j : ℕ) (x y p : Float) → Scaled i j x y → T (fits binary64 y) → T (positive p) → num p * 2 ^ j ≡ 2 ^ i * den p → mul binary64 x p ≡ y
scaled_is i j x y p s f P e =
    let c = cross (num x) (den x) (num y) (den y) (num p) (den p) (2 ^ i) (2 ^ j) (pow_pos j) s.ratio e in
    let v = mul binary64 x p in
    let h : HasValue v (unlike (negative x) (negative p)) (num y) (den y) = exact_where_held times x p y (positive-finite x s.first) (positive-finite p P) tt s.second f c in
    let k : HasValue v false (num y) (den y) = rw (no_sign x (nonneg_positive x s.first), no_sign p (nonneg_positive p P)) at h in
    same_value v y (record { above = positive_of_value v (num y) (den y) k (num_pos y s.second); held = mul-fits binary64 x p }) (record { above = s.second; held = f }) (value→cross v (num y) (den y) k)
  where
    cross : (n d m e p q I J : ℕ) → 0 < J → m * d * J ≡ n * e * I → p * J ≡ I * q → n * p * e ≡ m * (d * q)
    cross n d m e p q I J Z h k = eq_of_mul-eq-mul_right J Z (n * p * e) (m * (d * q)) (one ∙ ap (λ (z : ℕ). z * (n * e)) k ∙ two ∙ ap (λ (z : ℕ). z * q) (sym h) ∙ three)
      where
        one : n * p * e * J ≡ p * J * (n * e)
        one = omega arith

        two : I * q * (n * e) ≡ n * e * I * q
        two = omega arith

        three : m * d * J * q ≡ m * (d * q) * J
        three = omega arith
