-- The difference of a double above zero and itself is a zero, and no product of two doubles above zero is below one. Assumes nothing.
use Rattle.std.specs.Prelude.{◌≡◌, refl, Bool, true, false, cond, T, ltb, Float}
use Prim.Native.Nat.{ℕ, zero, suc, ◌+◌, ◌-◌, ◌*◌, ◌/◌, ◌%◌, ◌^◌, ◌≤◌, ◌<◌, compare}
use native.Mathlib.Nat.{le_refl, mul-pos, sub_self}
use Rattle.std.proofs.Common.{arith, le-ltb}
use Rattle.std.specs.Float.{nan, inf, fin, binary64}
use Rattle.std.specs.Float.Ieee.{prec, emax, low, up, down, size, nearest, odd, units, round, sum, add, sub, neg, mul, lt, of_bits}
use Rattle.std.specs.Float.Ieee.Exact.{HasValue}
use Rattle.std.specs.Float.Ieee.Fits.{down_pos}
use Rattle.std.specs.Float.Ieee.Positive.{positive}
use Rattle.numerics.specs.Double.{◌⊖◌, +0}
use Rattle.numerics.specs.Fixed.{zero_val}

abbrev pub Positive-sign : Float → Type 0
Positive-sign nan = ⊥
Positive-sign (inf s) = s ≡ false
Positive-sign (fin s m e) = s ≡ false

-- rounding keeps a positive sign
odd_sign : (d q k l : ℕ) → Positive-sign (odd d false q k l)
unfolding odd
odd_sign d zero k l = refl
odd_sign d (suc q) k l = refl

cond_sign : (b : Bool) (x y : Float) → Positive-sign x → Positive-sign y → Positive-sign (cond b x y)
cond_sign true x y p q = p
cond_sign false x y p q = q

round_sign : (a c : ℕ) → Positive-sign (round binary64 false a c)
unfolding round units
round_sign a c =
    let n = a * 2 ^ low binary64 in
    let k = size (n / c) - prec binary64 in
    let u = c * 2 ^ k in
    let q = nearest (n / u) (compare (n % u * 2) u) in
    cond_sign (ltb (q * 2 ^ k) (2 ^ (low binary64 + suc (emax binary64)))) (odd (suc (prec binary64)) false q k (low binary64)) (inf false) (odd_sign (suc (prec binary64)) q k (low binary64)) refl

pub product_sign : (x y : Float) → T (positive x) → T (positive y) → Positive-sign (mul binary64 x y)
unfolding mul
product_sign nan y p q = absurd p
product_sign (inf s) y p q = absurd p
product_sign (fin true m e) y p q = absurd p
product_sign (fin false m e) nan p q = absurd q
product_sign (fin false m e) (inf s) p q = absurd q
product_sign (fin false m e) (fin true n d) p q = absurd q
product_sign (fin false m e) (fin false n d) p q = round_sign (m * up e * (n * up d)) (down e * down d)

-- a zero of positive sign
abbrev pub Zero : Float → Type 0
Zero nan = ⊥
Zero (inf s) = ⊥
Zero (fin s m e) = (s ≡ false) × (m * up e ≡ 0)

value_zero : (x : Float) (c : ℕ) → 0 < c → HasValue x false 0 c → Zero x
value_zero nan c C h = absurd h
value_zero (inf s) c C h = absurd h
value_zero (fin s m e) c C h = (h.0, factor (m * up e) c (down e) C h.1)
  where
    factor : (a c d : ℕ) → 0 < c → a * c ≡ 0 * d → a ≡ 0
    factor zero c d C e = refl
    factor (suc a) c d C e = absurd (clash a c d C e)
      where
        clash : (a c d : ℕ) → 0 < c → suc a * c ≡ 0 * d → ⊥
        clash a c d C e = omega (arith, native.Mathlib.Nat.mul-le-mul_right c (native.Mathlib.Nat.zero-lt-suc a))

pub not_under : (x z : Float) → Positive-sign x → Zero z → lt x z ≡ false
unfolding lt
not_under nan z p q = absurd p
not_under (inf s) nan p q = absurd q
not_under (inf s) (inf t) p q = absurd q
not_under (inf s) (fin t n d) p q = p
not_under (fin s m e) nan p q = absurd q
not_under (fin s m e) (inf t) p q = absurd q
not_under (fin s m e) (fin t n d) p q =
    rw (p, q.0) (le-ltb _ _ (zero_least (m * up e * down d) (n * up d) (down e) q.1))
  where
    zero_least : (a b c : ℕ) → b ≡ 0 → b * c ≤ a
    zero_least a b c e = rw e (omega arith)

pub difference_zero : (x : Float) → T (positive x) → Zero (x ⊖ x)
unfolding sub add neg sum
difference_zero nan p = absurd p
difference_zero (inf s) p = absurd p
difference_zero (fin true m e) p = absurd p
difference_zero (fin false m e) p =
    let a = m * up e * down e in
    let c = down e * down e in
    let C : 0 < c = mul-pos (down_pos e) (down_pos e) in
    let t : ltb a a ≡ false = le-ltb a a (le_refl a) in
    rw (t, sub_self a) (value_zero (round binary64 false 0 c) (2 ^ 1074) (lib.Pow.pow_pos 1074) (zero_val c C))

pub zero_zero : Zero +0
unfolding of_bits
zero_zero = (refl, refl)

pub zero_sign : (z : Float) → Zero z → Positive-sign z
zero_sign nan q = absurd q
zero_sign (inf s) q = absurd q
zero_sign (fin s m e) q = q.0
