-- A fraction rounded to binary64 is the nearest of all finite doubles where it is no tie (`rounded_nearest`). Assumes nothing.
-- In units of 2 ^ -1074 let the fraction be n / c, and let k digits be dropped: the rounded value is K × 2 ^ k, with K the whole number nearest to n / u for u = c × 2 ^ k. Each other double is
-- another multiple of 2 ^ k, or below 2 ^ 52 × 2 ^ k, which is at most n / c, or has a sign.
use Rattle.std.specs.Prelude.{◌≡◌, ◌⊎◌, Bool, not, ltb, leb, Float}
use Rattle.std.proofs.Math.Path.{sym}
use Rattle.std.proofs.Common.{ap, ap₂, ◌∙◌, subst, inl, inr, true≢false, add-mul, mul-one, mul-pos, mul-le-mul_right, mul-lt-mul_of_pos_right, lt_of_mul-lt-mul_right, eq-or-lt_of_le, eq-zero-or-pos, zero-lt-suc, zero-mul, le-div_iff_mul-le, ltb-true, leb→le, pow-add, pow_pos}
use Rattle.std.proofs.Math.Bool.{true, false}
use Prim.Native.Nat.{ℕ, zero, suc, ◌+◌, ◌-◌, ◌*◌, ◌/◌, ◌^◌, ◌≤◌, ◌<◌}
use native.Mathlib.Omega.{arith}
use Rattle.std.proofs.Math.Dec.{T, nleb→lt, lt→ltb}
use Rattle.std.specs.Float.Ieee.{nan, fin, up, down, size, round, lt, fits}
use Rattle.std.specs.Float.{inf, binary64}
use Rattle.std.specs.Float.Ieee.Digits.{size_reaches}
use Rattle.std.specs.Float.Ieee.Exact.{HasValue}
use Rattle.std.specs.Float.Ieee.Fits.{down_pos, round-fits}
use Rattle.std.specs.Float.Ieee.Order.{drop, kept}
use Rattle.std.specs.Float.Ieee.Positive.{positive, first_pos}
use Rattle.std.specs.Float.Ieee.Scale.{finite, round_val, round_under}
use Rattle.numerics.specs.Fraction.{Frac, ◌⊏◌}
use Rattle.numerics.specs.Nearest.{Nearest, apart}
use Rattle.numerics.specs.Round.{closest_above, closest_below}
use Rattle.numerics.specs.Units.{whole_units}
use Rattle.numerics.specs.Common.{sub_mul}
use Rattle.numerics.specs.Spacing.{unit, count, counted, Good}
use Rattle.numerics.specs.SpacingGrid.{multiple}

-- |n - x|
abbrev gap : ℕ → ℕ → ℕ
gap n x = n - x + (x - n)

-- ---- K × u is less than half of u away from n
module _ (n u K : ℕ) (above : 2 * (K * u) < 2 * n + u) (below : 2 * n < 2 * (K * u) + u) where
  -- another multiple of u is further away
  other : (t : ℕ) → (K < t) ⊎ (t < K) → gap n (K * u) < gap n (t * u)
  other t (inl h) = omega (arith, mul-le-mul_right u h)
  other t (inr h) = omega (arith, mul-le-mul_right u h)

  least : (t : ℕ) → gap n (K * u) ≤ gap n (t * u)
  least t = go (leb K t) (leb→le K t) (nleb→lt K t)
    where
      same_or : (K ≡ t) ⊎ (K < t) → gap n (K * u) ≤ gap n (t * u)
      same_or (inl e) = omega (arith, ap (λ (z : ℕ). z * u) e)
      same_or (inr h) = omega (arith, other t (inl h))

      go : (b : Bool) → (T b → K ≤ t) → (T (not b) → t < K) → gap n (K * u) ≤ gap n (t * u)
      go true h g = same_or (eq-or-lt_of_le (h tt))
      go false h g = omega (arith, other t (inr (g tt)))

  -- and so is what lies below a multiple of u that is at most n
  beneath : (t x : ℕ) → t * u ≤ n → x < t * u → gap n (K * u) < gap n x
  beneath t x h l = omega (arith, least t)

  -- and so is -x, unless it and K are zero
  beyond : (x : ℕ) → 0 < x + K → gap n (K * u) < n + x
  beyond x h = go (eq-zero-or-pos K)
    where
      go : (K ≡ 0) ⊎ (0 < K) → gap n (K * u) < n + x
      go (inl e) = omega (arith, ap (λ (z : ℕ). z * u) e)
      go (inr p) = omega (arith, other 0 (inr p))

-- ---- a rounded fraction in units
-- where digits are dropped, 53 are kept
pub leading : (n c : ℕ) → 0 < c → 0 < drop 53 n c → 2 ^ 52 * (c * 2 ^ drop 53 n c) ≤ n
leading n c C D =
    let k = drop 53 n c in
    let h : 2 ^ (52 + k) * c ≤ n = (le-div_iff_mul-le C).0 (size_reaches (n / c) (52 + k) (inside (size (n / c)) D)) in
    regroup c (2 ^ k) n (subst (λ (z : ℕ). z * c ≤ n) (pow-add 2 52 k) h)
  where
    inside : (z : ℕ) → 0 < z - 53 → 52 + (z - 53) < z
    inside z h = omega arith

    regroup : (c P n : ℕ) → 2 ^ 52 * P * c ≤ n → 2 ^ 52 * (c * P) ≤ n
    regroup c P n h = omega arith

record Best (n c K k : ℕ) : Type 0 where
  above : 2 * (K * (c * 2 ^ k)) < 2 * n + c * 2 ^ k
  below : 2 * n < 2 * (K * (c * 2 ^ k)) + c * 2 ^ k
  normal : 0 < k → 2 ^ 52 * (c * 2 ^ k) ≤ n

best : (n c : ℕ) → 0 < c → ((t : ℕ) → 2 * n ≡ (2 * t + 1) * (c * 2 ^ drop 53 n c) → ⊥) → Best n c (kept 53 n c) (drop 53 n c)
best n c C tie =
    let u = c * 2 ^ drop 53 n c in
    let U : 0 < u = mul-pos C (pow_pos (drop 53 n c)) in
    record { above = up_to (kept 53 n c) u U tie (eq-or-lt_of_le (closest_above n u U)); below = down_to (kept 53 n c) u tie (eq-or-lt_of_le (closest_below n u U)); normal = leading n c C }
  where
    up_to : (K u : ℕ) → 0 < u → ((t : ℕ) → 2 * n ≡ (2 * t + 1) * u → ⊥) → (2 * (K * u) ≡ 2 * n + u) ⊎ (2 * (K * u) < 2 * n + u) → 2 * (K * u) < 2 * n + u
    up_to K u U g (inr h) = h
    up_to zero u U g (inl e) = omega arith
    up_to (suc t) u U g (inl e) = absurd (g t (omega arith))

    down_to : (K u : ℕ) → ((t : ℕ) → 2 * n ≡ (2 * t + 1) * u → ⊥) → (2 * n ≡ 2 * (K * u) + u) ⊎ (2 * n < 2 * (K * u) + u) → 2 * n < 2 * (K * u) + u
    down_to K u g (inr h) = h
    down_to K u g (inl e) = absurd (g K (omega arith))

-- ---- another double without a sign, in units
abbrev Spot : ℕ → ℕ → Type 0
Spot k Z = ((t : ℕ) × (Z ≡ t * 2 ^ k)) ⊎ ((0 < k) × (Z < 2 ^ 52 * 2 ^ k))

spot : (z : Float) → Good z → (k : ℕ) → Spot k (count z)
spot z g k = go (leb (2 ^ 52 * 2 ^ k) (count z)) (leb→le (2 ^ 52 * 2 ^ k) (count z)) (nleb→lt (2 ^ 52 * 2 ^ k) (count z))
  where
    low : count z < 2 ^ 52 * 2 ^ k → (k ≡ 0) ⊎ (0 < k) → Spot k (count z)
    low h (inl e) = inl (count z, sym (mul-one (count z)) ∙ ap (λ (j : ℕ). count z * 2 ^ j) (sym e))
    low h (inr p) = inr (p, h)

    go : (b : Bool) → (T b → 2 ^ 52 * 2 ^ k ≤ count z) → (T (not b) → count z < 2 ^ 52 * 2 ^ k) → Spot k (count z)
    go true h l = inl (multiple z g k (h tt))
    go false h l = low (l tt) (eq-zero-or-pos k)

regrouped : (K c P : ℕ) → K * (c * P) ≡ K * P * c
regrouped K c P = omega arith

further : (n c K k Z : ℕ) → 0 < c → Best n c K k → Spot k Z → (K * 2 ^ k < Z) ⊎ (Z < K * 2 ^ k) → gap n (K * 2 ^ k * c) < gap n (Z * c)
further n c K k Z C b s h = subst (λ (x : ℕ). gap n x < gap n (Z * c)) (regrouped K c (2 ^ k)) (go s)
  where
    sides : (P t : ℕ) → Z ≡ t * P → (K * P < Z) ⊎ (Z < K * P) → (K < t) ⊎ (t < K)
    sides P t e (inl l) = inl (lt_of_mul-lt-mul_right P (subst (λ (x : ℕ). K * P < x) e l))
    sides P t e (inr l) = inr (lt_of_mul-lt-mul_right P (subst (λ (x : ℕ). x < K * P) e l))

    smaller : (P : ℕ) → Z * c < 2 ^ 52 * P * c → Z * c < 2 ^ 52 * (c * P)
    smaller P h = omega arith

    go : Spot k Z → gap n (K * (c * 2 ^ k)) < gap n (Z * c)
    go (inl (t, e)) = subst (λ (x : ℕ). gap n (K * (c * 2 ^ k)) < gap n x) (regrouped t c (2 ^ k) ∙ ap (λ (x : ℕ). x * c) (sym e)) (other n (c * 2 ^ k) K b.above b.below t (sides (2 ^ k) t e h))
    go (inr (p, l)) = beneath n (c * 2 ^ k) K b.above b.below (2 ^ 52) (Z * c) (b.normal p) (smaller (2 ^ k) (mul-lt-mul_of_pos_right l C))

-- ---- from units to fractions: a / c is n / c units of 1 / L with n = a L, p / d is Y units, r / s is Z
scaled : (x y q : ℕ) → gap x y * q ≡ gap (x * q) (y * q)
scaled x y q = add-mul (x - y) (y - x) q ∙ ap₂ ◌+◌ (sub_mul x y q) (sub_mul y x q)

in_units : (a c p d L Y : ℕ) → p * L ≡ Y * d → gap (a * d + 0 * c) (p * c) * L ≡ gap (a * L) (Y * c) * d
in_units a c p d L Y e =
    let l : (a * d + 0 * c) * L ≡ a * L * d = omega arith in
    let r : p * c * L ≡ Y * c * d = omega (arith, ap (λ (x : ℕ). x * c) e) in
    scaled (a * d + 0 * c) (p * c) L ∙ ap₂ gap l r ∙ sym (scaled (a * L) (Y * c) d)

sum_units : (a c r s L Z : ℕ) → r * L ≡ Z * s → gap (a * s + r * c) (0 * c) * L ≡ (a * L + Z * c) * s
sum_units a c r s L Z e = ap (λ (x : ℕ). x * L) (plain (a * s + r * c) c) ∙ spread a s r c L Z e
  where
    plain : (x c : ℕ) → gap x (0 * c) ≡ x
    plain x c = omega arith

    spread : (a s r c L Z : ℕ) → r * L ≡ Z * s → (a * s + r * c) * L ≡ (a * L + Z * c) * s
    spread a s r c L Z e = omega (arith, ap (λ (x : ℕ). x * c) e)

-- what a test of two values says
tests : (x y : ℕ) → (ltb x y ≡ true) ⊎ (ltb y x ≡ true) → (x < y) ⊎ (y < x)
tests x y (inl h) = inl (ltb-true x y h)
tests x y (inr h) = inr (ltb-true y x h)

-- the order of distances, and of values, is that of their units
across : (t w D E d s c L : ℕ) → 0 < d → 0 < s → 0 < c → t * L ≡ D * d → w * L ≡ E * s → D < E → t * (c * s) < w * (c * d)
across t w D E d s c L P Q C e f h =
    lt_of_mul-lt-mul_right L (omega (arith, mul-lt-mul_of_pos_right h (mul-pos (mul-pos P Q) C), ap (λ (x : ℕ). x * (c * s)) e, ap (λ (x : ℕ). x * (c * d)) f))

ordered : (Y Z L p d r s : ℕ) → 0 < L → p * L ≡ Y * d → r * L ≡ Z * s → p * s < r * d → Y < Z
ordered Y Z L p d r s L0 e f h = lt_of_mul-lt-mul_right (d * s) (omega (arith, mul-lt-mul_of_pos_right h L0, ap (λ (x : ℕ). x * s) e, ap (λ (x : ℕ). x * d) f))

-- one of two counts is above zero where one of the values is
some : (Y Z L p d r s : ℕ) → 0 < L → p * L ≡ Y * d → r * L ≡ Z * s → 0 < r * d + p * s → 0 < Z + Y
some Y Z L p d r s L0 e f h = first_pos (Z + Y) (d * s) (omega (arith, mul-pos h L0, ap (λ (x : ℕ). x * s) e, ap (λ (x : ℕ). x * d) f))

-- ---- doubles
module _ (q : Frac) (K k : ℕ) (b : Best (q.top * 2 ^ 1074) q.bot K k) where
  -- y = p / d, and z = r / s without a sign
  upright : (p d r s Z : ℕ) → 0 < d → 0 < s → p * 2 ^ 1074 ≡ K * 2 ^ k * d → r * 2 ^ 1074 ≡ Z * s → Spot k Z → (p * s < r * d) ⊎ (r * d < p * s)
      → gap (q.top * d + 0 * q.bot) (p * q.bot) * (q.bot * s) < gap (q.top * s + 0 * q.bot) (r * q.bot) * (q.bot * d)
  upright p d r s Z P Q e f w h =
      let a = q.top in
      let c = q.bot in
      let L = 2 ^ 1074 in
      let Y = K * 2 ^ k in
      across (gap (a * d + 0 * c) (p * c)) (gap (a * s + 0 * c) (r * c)) (gap (a * L) (Y * c)) (gap (a * L) (Z * c)) d s c L P Q q.good (in_units a c p d L Y e) (in_units a c r s L Z f)
      (further (a * L) c K k Z q.good b w (sides h))
    where
      sides : (p * s < r * d) ⊎ (r * d < p * s) → (K * 2 ^ k < Z) ⊎ (Z < K * 2 ^ k)
      sides (inl l) = inl (ordered (K * 2 ^ k) Z (2 ^ 1074) p d r s (pow_pos 1074) e f l)
      sides (inr l) = inr (ordered Z (K * 2 ^ k) (2 ^ 1074) r s p d (pow_pos 1074) f e l)

  -- y = p / d, and z = - r / s
  with_sign : (p d r s Z : ℕ) → 0 < d → 0 < s → p * 2 ^ 1074 ≡ K * 2 ^ k * d → r * 2 ^ 1074 ≡ Z * s → 0 < r * d + p * s
      → gap (q.top * d + 0 * q.bot) (p * q.bot) * (q.bot * s) < gap (q.top * s + r * q.bot) (0 * q.bot) * (q.bot * d)
  with_sign p d r s Z P Q e f h =
      let a = q.top in
      let c = q.bot in
      let L = 2 ^ 1074 in
      let Y = K * 2 ^ k in
      across (gap (a * d + 0 * c) (p * c)) (gap (a * s + r * c) (0 * c)) (gap (a * L) (Y * c)) (a * L + Z * c) d s c L P Q q.good (in_units a c p d L Y e) (sum_units a c r s L Z f)
      (subst (λ (x : ℕ). gap (a * L) x < a * L + Z * c) (regrouped K c (2 ^ k)) (beyond (a * L) (c * 2 ^ k) K b.above b.below (Z * c) (times Z K (2 ^ k) (some Y Z L p d r s (pow_pos 1074) e f h))))
    where
      times : (Z K P : ℕ) → 0 < Z + K * P → 0 < Z * q.bot + K
      times zero zero P h = omega arith
      times zero (suc K) P h = omega arith
      times (suc Z) K P h = omega (arith, mul-pos (zero-lt-suc Z) q.good)

  nearer_of : (y z : Float) → HasValue y false (K * 2 ^ k) (2 ^ 1074) → T (fits binary64 z) → T (finite z) → (lt y z ≡ true) ⊎ (lt z y ≡ true) → apart q y ⊏ apart q z
  unfolding lt unit
  nearer_of nan z v f p h = absurd v
  nearer_of (inf s) z v f p h = absurd v
  nearer_of (fin true m e) z v f p h = absurd (true≢false v.0)
  nearer_of (fin false m e) nan v f p h = absurd p
  nearer_of (fin false m e) (inf t) v f p h = absurd p
  nearer_of (fin false m e) (fin true r d) v f p (inl h) = absurd (subst T (sym h) tt)
  nearer_of (fin false m e) (fin true r d) v f p (inr h) =
      let u = whole_units (fin true r d) f tt in
      with_sign (m * up e) (down e) (r * up d) (down d) u.0 (down_pos e) (down_pos d) v.1 u.1.1 (ltb-true 0 (r * up d * down e + m * up e * down d) h)
  nearer_of (fin false m e) (fin false zero d) v f p h =
      upright (m * up e) (down e) (0 * up d) (down d) 0 (down_pos e) (down_pos d) v.1 (none (up d) (2 ^ 1074) (down d)) (inl (0, sym (zero-mul (2 ^ k)))) (tests (m * up e * down d) (0 * up d * down e) h)
    where
      none : (a b c : ℕ) → 0 * a * b ≡ 0 * c
      none a b c = omega arith
  nearer_of (fin false m e) (fin false (suc r) d) v f p h =
      let z = fin false (suc r) d in
      let g : T (positive z) = lt→ltb 0 (suc r) (zero-lt-suc r) in
      upright (m * up e) (down e) (suc r * up d) (down d) (count z) (down_pos e) (down_pos d) v.1 (counted z g f) (spot z (record { above = g; held = f }) k) (tests (m * up e * down d) (suc r * up d * down e) h)

pub rounded_nearest : (q : Frac) → T (finite (round binary64 false q.top q.bot))
    → ((t : ℕ) → 2 * (q.top * 2 ^ 1074) ≡ (2 * t + 1) * (q.bot * 2 ^ drop 53 (q.top * 2 ^ 1074) q.bot) → ⊥)
    → Nearest q (round binary64 false q.top q.bot)
rounded_nearest q p tie =
    let a = q.top in
    let c = q.bot in
    let y = round binary64 false a c in
    let n = a * 2 ^ 1074 in
    record {
      double = round-fits binary64 false a c;
      number = p;
      nearer = λ z f g h. nearer_of q (kept 53 n c) (drop 53 n c) (best n c q.good tie) y z (round_val binary64 a c (round_under binary64 a c p)) f g h;
    }
