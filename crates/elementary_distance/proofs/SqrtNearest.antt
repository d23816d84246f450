-- sqrt gives "the nearest double", of all finite doubles: each is a whole number of units (`whole_units` of numerics), and one with a sign is further from the root than +0.
-- Assumes nothing.
use mathlib.Core.Path.{◌≡◌, refl, sym, ap, subst}
use mathlib.Core.Bool.{true, false, true≢false}
use Prim.Native.Nat.{ℕ, ◌+◌, ◌-◌, ◌*◌, ◌^◌, ◌≤◌, ◌<◌}
use native.Mathlib.Nat.{lt_of_mul-lt-mul_right, lt_of_le_of_lt, lt_of_lt_of_le, le_of_eq, mul-pos, mul-le-mul, mul-le-mul_right, mul-lt-mul_of_pos_right}
use native.Mathlib.Omega.{arith}
use borrow.Author.Tests.{ltb-true}
use lib.Dec.{T}
use lib.Pow.{pow_pos}
use lib.Ieee.{Float, nan, inf, fin, binary64, up, down, lt, fits, of_bits}
use lib.Ieee.Exact.{HasValue}
use lib.Ieee.Fits.{down_pos}
use lib.Ieee.Positive.{num, den, den_pos, value→cross, positive_of_value}
use lib.Ieee.Scale.{finite}
use Rattle.numerics.specs.Double.{+0}
use Rattle.numerics.specs.Fraction.{◌⊏◌, ◌⊠◌, val}
use Rattle.numerics.specs.Units.{whole_units}
use Rattle.elementary_sqrt.specs.Sqrt.{sqrt_of}
use Rattle.elementary_distance.specs.Distances.{halfway, SqrtDistance}
use Rattle.elementary_distance.proofs.SqrtUnits.{NearestUnits, sqrt_units}

-- ---- whole numbers: x = n / d, y = p / q, z = r / s, in units X, Y, Z of 1 / L
strict : (X Y Z L n d p q r s : ℕ) → 0 < L → 0 < d → 0 < q → 0 < s → n * L ≡ X * d → p * L ≡ Y * q → r * L ≡ Z * s
    → (4 * (X * L) < (Y + Z) * (Y + Z) → n * (2 * (q * s) * (2 * (q * s))) < (p * s + r * q) * (p * s + r * q) * d)
    × ((Y + Z) * (Y + Z) < 4 * (X * L) → (p * s + r * q) * (p * s + r * q) * d < n * (2 * (q * s) * (2 * (q * s))))
strict X Y Z L n d p q r s L0 D Q S ex ey ez =
    let sum : (p * s + r * q) * L ≡ (Y + Z) * (q * s) = omega (arith, ap (λ (k : ℕ). k * s) ey, ap (λ (k : ℕ). k * q) ez) in
    let left : n * (2 * (q * s) * (2 * (q * s))) * (L * L) ≡ 4 * (X * L) * (d * (q * s * (q * s))) = lefts n (q * s) L X d ex in
    let right : (p * s + r * q) * (p * s + r * q) * d * (L * L) ≡ (Y + Z) * (Y + Z) * (d * (q * s * (q * s))) = rights (p * s + r * q) L d (Y + Z) (q * s) sum in
    let P : 0 < d * (q * s * (q * s)) = mul-pos D (mul-pos (mul-pos Q S) (mul-pos Q S)) in (
      (λ h. lt_of_mul-lt-mul_right (L * L) (lt_of_le_of_lt (le_of_eq left) (lt_of_lt_of_le (mul-lt-mul_of_pos_right h P) (le_of_eq (sym right))))),
      (λ h. lt_of_mul-lt-mul_right (L * L) (lt_of_le_of_lt (le_of_eq right) (lt_of_lt_of_le (mul-lt-mul_of_pos_right h P) (le_of_eq (sym left))))),
    )
  where
    lefts : (n w L X d : ℕ) → n * L ≡ X * d → n * (2 * w * (2 * w)) * (L * L) ≡ 4 * (X * L) * (d * (w * w))
    lefts n w L X d e = omega (arith, ap (λ (k : ℕ). k * (4 * (w * w) * L)) e)

    rights : (t L d u w : ℕ) → t * L ≡ u * w → t * t * d * (L * L) ≡ u * u * (d * (w * w))
    rights t L d u w e = omega (arith, ap (λ (k : ℕ). k * k * d) e)

-- the order of two fractions is that of their units
order : (Y Z L p q r s : ℕ) → 0 < L → p * L ≡ Y * q → r * L ≡ Z * s → p * s < r * q → Y < Z
order Y Z L p q r s L0 ey ez h =
    lt_of_mul-lt-mul_right (q * s) (lt_of_le_of_lt (le_of_eq (sym (turn p q s L Y ey))) (lt_of_lt_of_le (mul-lt-mul_of_pos_right h L0) (le_of_eq (turn' r q s L Z ez))))
  where
    turn : (p q s L Y : ℕ) → p * L ≡ Y * q → p * s * L ≡ Y * (q * s)
    turn p q s L Y e = omega (arith, ap (λ (k : ℕ). k * s) e)

    turn' : (r q s L Z : ℕ) → r * L ≡ Z * s → r * q * L ≡ Z * (q * s)
    turn' r q s L Z e = omega (arith, ap (λ (k : ℕ). k * q) e)

-- ---- doubles
zero_fits : T (fits binary64 +0)
unfolding fits of_bits
zero_fits = tt

zero_units : HasValue +0 false 0 (2 ^ 1074)
unfolding of_bits
zero_units = (refl, refl)

plain : (t a b : ℕ) → t ≡ t - (0 * a + 0 * b)
plain t a b = omega arith

upper : (x y z : Float) → NearestUnits x y → T (fits binary64 z) → T (finite z) → lt y z ≡ true → val x ⊏ halfway y z ⊠ halfway y z
unfolding lt
upper x nan z n f p h = absurd n.y_is
upper x (inf s) z n f p h = absurd n.y_is
upper x (fin true m e) z n f p h = absurd (true≢false n.y_is.0)
upper x (fin false m e) nan n f p h = absurd p
upper x (fin false m e) (inf t) n f p h = absurd p
upper x (fin false m e) (fin true k d) n f p h = absurd (subst T (sym h) tt)
upper x (fin false m e) (fin false k d) n f p h =
    let u = whole_units (fin false k d) f tt in
    let a = m * up e in
    let c = k * up d in
    let l = ltb-true (a * down d) (c * down e) h in
    let o = order n.units_y u.0 (2 ^ 1074) a (down e) c (down d) (pow_pos 1074) n.y_is.1 u.1.1 l in
    subst (λ (t : ℕ). num x * (2 * (down e * down d) * (2 * (down e * down d))) < t * t * den x) (plain (a * down d + c * down e) (down d) (down e))
    ((strict n.units_x n.units_y u.0 (2 ^ 1074) (num x) (den x) a (down e) c (down d) (pow_pos 1074) (den_pos x) (down_pos e) (down_pos d)
    (value→cross x n.units_x (2 ^ 1074) n.x_is) n.y_is.1 u.1.1).0 (n.above (fin false k d) u.0 f u.1 o))

lower : (x y z : Float) → NearestUnits x y → T (fits binary64 z) → T (finite z) → lt z y ≡ true → halfway y z ⊠ halfway y z ⊏ val x
unfolding lt
lower x nan z n f p h = absurd n.y_is
lower x (inf s) z n f p h = absurd n.y_is
lower x (fin true m e) z n f p h = absurd (true≢false n.y_is.0)
lower x (fin false m e) nan n f p h = absurd p
lower x (fin false m e) (inf t) n f p h = absurd p
lower x (fin false m e) (fin true k d) n f p h =
    let a = m * up e in
    let t = a * down d + 0 * down e - (0 * down d + k * up d * down e) in
    let s : t ≤ a * down d + 0 * down e = cut (a * down d + 0 * down e) (0 * down d + k * up d * down e) in
    let b = (strict n.units_x n.units_y 0 (2 ^ 1074) (num x) (den x) a (down e) 0 (down d) (pow_pos 1074) (den_pos x) (down_pos e) (down_pos d)
    (value→cross x n.units_x (2 ^ 1074) n.x_is) n.y_is.1 (none (2 ^ 1074) (down d))).1 (n.below +0 0 zero_fits zero_units n.y_above) in
    lt_of_le_of_lt (mul-le-mul_right (den x) (mul-le-mul s s)) b
  where
    cut : (p q : ℕ) → p - q ≤ p
    cut p q = omega arith

    none : (a b : ℕ) → 0 * a ≡ 0 * b
    none a b = omega arith
lower x (fin false m e) (fin false k d) n f p h =
    let u = whole_units (fin false k d) f tt in
    let a = m * up e in
    let c = k * up d in
    let l = ltb-true (c * down e) (a * down d) h in
    let o = order u.0 n.units_y (2 ^ 1074) c (down d) a (down e) (pow_pos 1074) u.1.1 n.y_is.1 l in
    subst (λ (t : ℕ). t * t * den x < num x * (2 * (down e * down d) * (2 * (down e * down d)))) (plain (a * down d + c * down e) (down d) (down e))
    ((strict n.units_x n.units_y u.0 (2 ^ 1074) (num x) (den x) a (down e) c (down d) (pow_pos 1074) (den_pos x) (down_pos e) (down_pos d)
    (value→cross x n.units_x (2 ^ 1074) n.x_is) n.y_is.1 u.1.1).1 (n.below (fin false k d) u.0 f u.1 o))

pub sqrt_nearest : SqrtDistance
sqrt_nearest x f e =
    let n = sqrt_units x f e in
    record {
      pos = positive_of_value (sqrt_of x) n.units_y (2 ^ 1074) n.y_is n.y_above;
      above = λ z g p h. upper x (sqrt_of x) z n g p h;
      below = λ z g p h. lower x (sqrt_of x) z n g p h;
    }
