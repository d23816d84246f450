-- sqrt among the doubles that are not negative. With x = X units of 2 ^ -1074 and the answer y = Y units, the root of x is the root of X × 2 ^ 1074 units; and for a double of Z other
-- units the middle of y and z is on z's side of the root: 4 X 2 ^ 1074 < (Y + Z)² where Y < Z, and (Y + Z)² < 4 X 2 ^ 1074 where Z < Y. So none is as near to the root as y, and no tie
-- happens. Assumes nothing.
use mathlib.Core.Path.{◌≡◌, refl, sym, ap, subst, ◌∙◌}
use mathlib.Core.Logic.{◌⊎◌, inl, inr}
use mathlib.Core.Bool.{Bool, true, false, not}
use Prim.Native.Nat.{ℕ, zero, suc, ◌+◌, ◌-◌, ◌*◌, ◌/◌, ◌%◌, ◌^◌, ◌≤◌, ◌<◌}
use native.Mathlib.Nat.{lt_of_lt_of_le, lt_of_le_of_lt, le_trans, le_of_eq, eq-or-lt_of_le, mul-le-mul, mul-le-mul_right, mul_assoc, mul-pos, sub-add_cancel, le_antisymm, le_of_mul-le-mul_right}
use native.Mathlib.Omega.{arith}
use borrow.Author.Tests.{lt-ltb, le-ltb}
use lib.Dec.{T, ltb, ltb→lt, eqb→eq}
use lib.IntN.{ℤ, pos, negsuc}
use lib.Pow.{pow_pos, pow_mono, pow-add}
use lib.Ieee.{Float, nan, inf, fin, binary64, up, down, of_bits, to_bits, fits}
use lib.Ieee.Bits.{of_bits-to_bits}
use lib.Ieee.Exact.{HasValue}
use Rattle.numerics.specs.Double.{positive_finite}
use Rattle.elementary_sqrt.specs.Sqrt.{nearest_root, shift_of, significand_of, exponent_of, root_bits, sqrt_of}
use Rattle.numerics.specs.Patterns.{highest_bit, normal_value, subnormal_value, pattern_pos, pattern_below}
use Rattle.numerics.specs.Order.{positive_of_tests}
use Rattle.numerics.specs.Held.{held, pow_back}
use Rattle.elementary_distance.proofs.SqrtRoot.{NearRoot, near_is, next_above, next_below, middle_above, middle_below, middle_least}

-- ---- a double's units: a number of 53 digits and a power of two
record Shape (z : ℕ) : Type 0 where
  digits : ℕ
  place : ℕ
  small : digits < 2 ^ 53
  is : z ≡ digits * 2 ^ place

cancel : (a b c : ℕ) → 0 < c → a * c ≡ b * c → a ≡ b
cancel a b c C e = le_antisymm (le_of_mul-le-mul_right (le_of_eq e) C) (le_of_mul-le-mul_right (le_of_eq (sym e)) C)

shape_of : (m : ℕ) (e : ℤ) (z l : ℕ) → m < 2 ^ 53 → down e ≤ 2 ^ l → m * up e * 2 ^ l ≡ z * down e → Shape z
shape_of m (pos k) z l h g e = record { digits = m; place = k + l; small = h; is = sym (native.Mathlib.Nat.mul-one z) ∙ sym e ∙ mul_assoc m (2 ^ k) (2 ^ l) ∙ ap (λ (v : ℕ). m * v) (sym (pow-add 2 k l)) }
shape_of m (negsuc k) z l h g e =
    let s : l - suc k + suc k ≡ l = sub-add_cancel (pow_back (suc k) l g) in
    let p : 2 ^ l ≡ 2 ^ (l - suc k) * 2 ^ suc k = ap (λ (v : ℕ). 2 ^ v) (sym s) ∙ pow-add 2 (l - suc k) (suc k) in
    record {
      digits = m;
      place = l - suc k;
      small = h;
      is = cancel z (m * 2 ^ (l - suc k)) (2 ^ suc k) (pow_pos (suc k)) (sym e ∙ ap (λ (v : ℕ). v * 2 ^ l) (native.Mathlib.Nat.mul-one m) ∙ ap (λ (v : ℕ). m * v) p ∙ sym (mul_assoc m (2 ^ (l - suc k)) (2 ^ suc k)));
    }

-- what `fits` says of a finite value
zero_place : (e : ℤ) → up e * down e ≡ 1 → down e ≤ 2 ^ 1074
zero_place (pos k) h = pow_pos 1074
zero_place (negsuc k) h = le_trans (le_of_eq (sym (native.Mathlib.Nat.one-mul (2 ^ suc k)) ∙ h)) (pow_pos 1074)

shape : (z : Float) (u : ℕ) → T (fits binary64 z) → HasValue z false u (2 ^ 1074) → Shape u
unfolding fits
shape nan u f h = absurd h
shape (inf s) u f h = absurd h
shape (fin s zero e) u f h = shape_of 0 e u 1074 (pow_pos 53) (zero_place e (eqb→eq (up e * down e) 1 f)) h.1
shape (fin s (suc m) e) u f v =
    let h = held binary64 s m e f in
    shape_of (suc m) e u 1074 h.0 h.1 v.1

-- ---- the units of a positive pattern
normal_units : (b k m : ℕ) → b ≡ k * 2 ^ 52 + m → 2 ^ 52 ≤ m → m < 2 ^ 53 → k < 2046 → HasValue (of_bits binary64 b) false (m * 2 ^ k) (2 ^ 1074)
normal_units b k m e l h g =
    let field : b / 2 ^ 52 - 1 ≡ k = omega arith in
    let digits : 2 ^ 52 + b % 2 ^ 52 ≡ m = omega arith in
    rw (digits, field) at (normal_value b (omega arith) (omega arith))

small_units : (b : ℕ) → b < 2 ^ 52 → HasValue (of_bits binary64 b) false (b * 2 ^ 0) (2 ^ 1074)
small_units b h = rw (native.Mathlib.Nat.mul-one b) (subnormal_value b h)

-- the radicand n and the root's place j of a pattern: its units times 2 ^ 1074 are n × (2 ^ j)²
record Halved (b : ℕ) : Type 0 where
  units : ℕ
  value : HasValue (of_bits binary64 b) false units (2 ^ 1074)
  place : exponent_of b / 2 - 1 < 2045
  low : 2 ^ 104 ≤ significand_of b * 2 ^ (52 + exponent_of b % 2)
  high : significand_of b * 2 ^ (52 + exponent_of b % 2) ≤ (2 ^ 53 - 1) * 2 ^ 53
  same : units * 2 ^ 1074 ≡ significand_of b * 2 ^ (52 + exponent_of b % 2) * (2 ^ (exponent_of b / 2 - 1) * 2 ^ (exponent_of b / 2 - 1))

powers : (m s f o j l : ℕ) → f + l ≡ s + (52 + o) + (j + j) → m * 2 ^ f * 2 ^ l ≡ m * 2 ^ s * 2 ^ (52 + o) * (2 ^ j * 2 ^ j)
powers m s f o j l e =
    mul_assoc m (2 ^ f) (2 ^ l) ∙ ap (λ (k : ℕ). m * k) (sym (pow-add 2 f l) ∙ ap (λ (k : ℕ). 2 ^ k) e ∙ pow-add 2 (s + (52 + o)) (j + j) ∙ ap (λ (k : ℕ). k * 2 ^ (j + j)) (pow-add 2 s (52 + o)) ∙ ap (λ (k : ℕ). 2 ^ s * 2 ^ (52 + o) * k) (pow-add 2 j j))
    ∙ regroup m (2 ^ s) (2 ^ (52 + o)) (2 ^ j * 2 ^ j)
  where
    regroup : (m a b c : ℕ) → m * (a * b * c) ≡ m * a * b * c
    regroup m a b c = omega arith

-- the radicand's bounds, by the exponent's last digit
radicand_low : (m e : ℕ) → 2 ^ 52 ≤ m → 2 ^ 104 ≤ m * 2 ^ (52 + e % 2)
radicand_low m e h = le_trans (mul-le-mul_right (2 ^ 52) h) (native.Mathlib.Nat.mul-le-mul_left m (pow_mono {i = 52} {j = 52 + e % 2} (omega arith)))

radicand_high : (m e : ℕ) → m < 2 ^ 53 → m * 2 ^ (52 + e % 2) ≤ (2 ^ 53 - 1) * 2 ^ 53
radicand_high m e h = mul-le-mul {n₁ = m} {m₁ = 2 ^ (52 + e % 2)} {n₂ = 2 ^ 53 - 1} {m₂ = 2 ^ 53} (omega arith) (pow_mono {i = 52 + e % 2} {j = 53} (omega arith))

subnormal_halved : (b : ℕ) → 0 < b → b < 2 ^ 52 → Halved b
unfolding significand_of exponent_of shift_of
subnormal_halved b p h =
    let t = highest_bit b p (omega arith) in
    let s = lib.Count.count_leading_zeros 64 b - 11 in
    let e = 1024 - s in
    let sum : 0 + 1074 ≡ s + (52 + e % 2) + (e / 2 - 1 + (e / 2 - 1)) = omega arith in
    record {
      units = b * 2 ^ 0;
      value = small_units b h;
      place = rw (lt-ltb b (2 ^ 52) h) (omega arith);
      low = rw (lt-ltb b (2 ^ 52) h) (radicand_low (b * 2 ^ s) e t.low);
      high = rw (lt-ltb b (2 ^ 52) h) (radicand_high (b * 2 ^ s) e t.high);
      same = rw (lt-ltb b (2 ^ 52) h) (powers b s 0 (e % 2) (e / 2 - 1) 1074 sum);
    }

normal_halved : (b : ℕ) → 2 ^ 52 ≤ b → b < 2047 * 2 ^ 52 → Halved b
unfolding significand_of exponent_of
normal_halved b l h =
    let m = 2 ^ 52 + b % 2 ^ 52 in
    let f = b / 2 ^ 52 - 1 in
    let e = b / 2 ^ 52 + 1023 in
    let sum : f + 1074 ≡ 0 + (52 + e % 2) + (e / 2 - 1 + (e / 2 - 1)) = omega arith in
    record {
      units = m * 2 ^ f;
      value = normal_units b f m (omega arith) (omega arith) (omega arith) (omega arith);
      place = rw (le-ltb b (2 ^ 52) l) (omega arith);
      low = rw (le-ltb b (2 ^ 52) l) (radicand_low m e (omega arith));
      high = rw (le-ltb b (2 ^ 52) l) (radicand_high m e (omega arith));
      same = rw (le-ltb b (2 ^ 52) l) (powers m 0 f (e % 2) (e / 2 - 1) 1074 sum ∙ ap (λ (k : ℕ). k * 2 ^ (52 + e % 2) * (2 ^ (e / 2 - 1) * 2 ^ (e / 2 - 1))) (native.Mathlib.Nat.mul-one m));
    }

halved : (b : ℕ) → 0 < b → b < 2047 * 2 ^ 52 → Halved b
halved b p h = go (ltb b (2 ^ 52)) (ltb→lt b (2 ^ 52)) (lib.Dec.nltb→le b (2 ^ 52))
  where
    go : (c : Bool) → (T c → b < 2 ^ 52) → (T (not c) → 2 ^ 52 ≤ b) → Halved b
    go true s t = subnormal_halved b p (s tt)
    go false s t = normal_halved b (t tt) h

-- ---- the theorem
-- x, y and each other double z that is not negative in units of 2 ^ -1074: the root lies on y's side of the middle of y and z
pub record NearestUnits (x y : Float) : Type 0 where
  pub units_x : ℕ
  pub units_y : ℕ
  pub x_is : HasValue x false units_x (2 ^ 1074)
  pub y_is : HasValue y false units_y (2 ^ 1074)
  pub y_above : 0 < units_y
  pub above : (z : Float) (u : ℕ) → T (fits binary64 z) → HasValue z false u (2 ^ 1074) → units_y < u → 4 * (units_x * 2 ^ 1074) < (units_y + u) * (units_y + u)
  pub below : (z : Float) (u : ℕ) → T (fits binary64 z) → HasValue z false u (2 ^ 1074) → u < units_y → (units_y + u) * (units_y + u) < 4 * (units_x * 2 ^ 1074)

module _ (n q j : ℕ) (r : NearRoot n q) (n-low : 2 ^ 104 ≤ n) where
  other_above : (u : ℕ) → Shape u → q * 2 ^ j < u → 4 * (n * (2 ^ j * 2 ^ j)) < (q * 2 ^ j + u) * (q * 2 ^ j + u)
  other_above u s h =
      let g : q * 2 ^ j < s.digits * 2 ^ s.place = lt_of_lt_of_le h (le_of_eq s.is) in
      middle_above n q (2 ^ j) u r (pow_pos j) (le_trans (next_above q j s.digits s.place r.low s.small g) (le_of_eq (sym s.is)))

  other_below : (u : ℕ) → Shape u → u < q * 2 ^ j → (q * 2 ^ j + u) * (q * 2 ^ j + u) < 4 * (n * (2 ^ j * 2 ^ j))
  other_below u s h = go (eq-or-lt_of_le r.low)
    where
      go : (2 ^ 52 ≡ q) ⊎ (2 ^ 52 < q) → (q * 2 ^ j + u) * (q * 2 ^ j + u) < 4 * (n * (2 ^ j * 2 ^ j))
      go (inl e) = middle_least n q (2 ^ j) u r (pow_pos j) (rw (sym e) n-low) h
      go (inr l) =
          let e : q ≡ q - 1 + 1 = omega arith in
          let g : s.digits * 2 ^ s.place < q * 2 ^ j = lt_of_le_of_lt (le_of_eq (sym s.is)) h in
          let k = next_below q j s.digits s.place r.low s.small (q - 1) e (omega arith) g in
          middle_below n q (2 ^ j) u r (pow_pos j) (q - 1) e (le_trans (le_of_eq s.is) k)

pub sqrt_units : (x : Float) → T (fits binary64 x) → positive_finite x ≡ true → NearestUnits x (sqrt_of x)
unfolding sqrt_of root_bits
sqrt_units x f e =
    let b = to_bits binary64 x in
    let h = halved b (pattern_pos x f (positive_of_tests x e)) (pattern_below x f (positive_of_tests x e)) in
    let n = significand_of b * 2 ^ (52 + exponent_of b % 2) in
    let j = exponent_of b / 2 - 1 in
    let r = near_is n h.low h.high in
    rw e (record {
      units_x = h.units;
      units_y = nearest_root n * 2 ^ j;
      x_is = subst (λ (v : Float). HasValue v false h.units (2 ^ 1074)) (of_bits-to_bits binary64 x f) h.value;
      y_is = normal_units (j * 2 ^ 52 + nearest_root n) j (nearest_root n) refl r.low r.high (omega (arith, h.place));
      y_above = mul-pos (lt_of_lt_of_le (pow_pos 52) r.low) (pow_pos j);
      above = λ z u g v l. lt_of_le_of_lt (le_of_eq (ap (λ (k : ℕ). 4 * k) h.same)) (other_above n (nearest_root n) j r h.low u (shape z u g v) l);
      below = λ z u g v l. lt_of_lt_of_le (other_below n (nearest_root n) j r h.low u (shape z u g v) l) (le_of_eq (ap (λ (k : ℕ). 4 * k) (sym h.same)));
    })
