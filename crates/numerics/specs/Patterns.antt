-- The bit pattern b of a positive finite double: it is below infinity's, and the double is (2^52 + b % 2^52) 2^(b / 2^52 - 1) / 2^1074, or b / 2^1074 where b is below 2^52.
-- `parts_of`: from 1 on it is 2^k (2^52 + t) / 2^52. `highest_bit`: a subnormal's digits moved up until the highest set bit is at place 52. Assumes nothing.
use Rattle.std.specs.Prelude.{◌≡◌, refl, ◌⊎◌, Bool, true, not, cond, ◌&&◌, ℕ, zero, suc, ◌+◌, ◌-◌, ◌*◌, ◌/◌, ◌%◌, ◌^◌, ◌≤◌, ◌<◌, leb, eqb, Float}
use Rattle.std.proofs.Common.{sym, ap, ◌∙◌, inl, inr, mul-one, zero-mul, lt_of_lt_of_le, lt_irrefl, le_trans, mod-lt, mul-le-mul_right, mul-le-mul_left, mul-lt-mul_of_pos_right, eq-zero-or-pos, zero-lt-suc, mul-pos, arith, leb-false, ne_eqb, lt-ltb, leb→le, eqb→eq, ltb→lt, lit≤, pow_pos, pow_mono, pow-add}
use Rattle.std.proofs.Math.Path.{subst}
use Rattle.std.proofs.Math.Bool.{false}
use Rattle.std.proofs.Math.Nat.{lt_of_not-le, eq_of_mul-eq-mul_right}
use Rattle.std.proofs.lemmas.Bool.{lt-leb}
use Rattle.std.specs.Int.Count.{count_leading_zeros}
use Rattle.std.proofs.lemmas.Nat.{leading_top}
use Rattle.std.proofs.Math.Dec.{T, nleb→lt}
use Rattle.std.specs.Float.{nan, inf, fin}
use Rattle.std.specs.Float.Ieee.{binary64, up, down, odd, of_fields, of_bits, to_bits, fits, is_nan, le, lt, eq}
use Rattle.std.specs.Float.Ieee.Bits.{of_bits-to_bits}
use Rattle.std.specs.Float.Ieee.Fits.{and_i, and_l, up_pos}
use Rattle.std.specs.Float.Ieee.Exact.{HasValue, odd_sign}
use Rattle.std.specs.Float.Ieee.Positive.{num, den, positive, den_pos, value→cross}
use Rattle.numerics.specs.Double.{+0}
use Rattle.numerics.specs.Sign.{of_positive}

-- ---- the fields
negative_fields : (E t : ℕ) → T (positive (of_fields binary64 true E t)) → ⊥
unfolding of_fields odd
negative_fields zero zero p = p
negative_fields zero (suc t) p = p
negative_fields (suc x) t p = go (eqb (suc x) 2047) (eqb t 0) (2 ^ 52 + t) p
  where
    go : (b c : Bool) (q : ℕ) → T (positive (cond b (cond c (inf true) nan) (odd 53 true q x 1074))) → ⊥
    go true true q p = p
    go true false q p = p
    go false c zero p = p
    go false c (suc q) p = p

special_fields : (t : ℕ) → T (positive (of_fields binary64 false 2047 t)) → ⊥
unfolding of_fields
special_fields t p = go (eqb t 0) p
  where
    go : (c : Bool) → T (positive (cond c (inf false) nan)) → ⊥
    go true p = p
    go false p = p

sign_clear : (s : Bool) (E t : ℕ) → T (positive (of_fields binary64 s E t)) → s ≡ false
sign_clear false E t p = refl
sign_clear true E t p = absurd (negative_fields E t p)

pattern_fields : (b : ℕ) → b < 2 ^ 63 → of_bits binary64 b ≡ of_fields binary64 false (b / 2 ^ 52) (b % 2 ^ 52)
unfolding of_bits
pattern_fields b h = let e : b % 2 ^ 63 / 2 ^ 52 ≡ b / 2 ^ 52 = omega arith in rw (lt-leb (2 ^ 63) b h, e)

pub positive_below : (b : ℕ) → T (positive (of_bits binary64 b)) → b < 0x7ff0_0000_0000_0000
positive_below b p =
    let h : b < 2 ^ 63 = leb-false (2 ^ 63) b (unfold of_bits in sign_clear (leb (2 ^ 63) b) (b % 2 ^ 63 / 2 ^ 52) (b % 2 ^ 52) p) in
    let n : b / 2 ^ 52 ≡ 2047 → ⊥ = λ e. special_fields (b % 2 ^ 52) (subst (λ (E : ℕ). T (positive (of_fields binary64 false E (b % 2 ^ 52)))) e (subst (λ (v : Float). T (positive v)) (pattern_fields b h) p)) in
    lt_of_not-le (λ (l : 0x7ff0_0000_0000_0000 ≤ b). n (omega arith))

normal_fields : (x t : ℕ) → x < 2046 → of_fields binary64 false (suc x) t ≡ odd 53 false (2 ^ 52 + t) x 1074
unfolding of_fields
normal_fields x t h = rw (ne_eqb (suc x) 2047 (λ e. omega arith))

pub normal_value : (b : ℕ) → 2 ^ 52 ≤ b → b < 0x7ff0_0000_0000_0000 → HasValue (of_bits binary64 b) false ((2 ^ 52 + b % 2 ^ 52) * 2 ^ (b / 2 ^ 52 - 1)) (2 ^ 1074)
normal_value b l h =
    let e : b / 2 ^ 52 ≡ suc (b / 2 ^ 52 - 1) = omega arith in
    subst (λ (v : Float). HasValue v false ((2 ^ 52 + b % 2 ^ 52) * 2 ^ (b / 2 ^ 52 - 1)) (2 ^ 1074))
    (sym (pattern_fields b (omega arith) ∙ ap (λ (E : ℕ). of_fields binary64 false E (b % 2 ^ 52)) e ∙ normal_fields (b / 2 ^ 52 - 1) (b % 2 ^ 52) (omega arith)))
    (odd_sign 53 false (2 ^ 52 + b % 2 ^ 52) (b / 2 ^ 52 - 1) 1074)

pub subnormal_value : (b : ℕ) → b < 2 ^ 52 → HasValue (of_bits binary64 b) false b (2 ^ 1074)
subnormal_value b h =
    let q : b / 2 ^ 52 ≡ 0 = omega arith in
    let r : b % 2 ^ 52 ≡ b = omega arith in
    let z : HasValue (of_fields binary64 false 0 b) false (b * 1) (2 ^ 1074) = unfold of_fields in odd_sign 53 false b 0 1074 in
    let e : of_bits binary64 b ≡ of_fields binary64 false 0 b = pattern_fields b (omega arith) ∙ rw (q, r) in
    subst (λ (v : Float). HasValue v false b (2 ^ 1074)) (sym e) (subst (λ (n : ℕ). HasValue (of_fields binary64 false 0 b) false n (2 ^ 1074)) (mul-one b) z)

-- the same number over another denominator
pub rescale : (x : Float) (w l a c : ℕ) → 0 < l → a * l ≡ w * c → HasValue x false w l → HasValue x false a c
rescale nan w l a c p h v = v
rescale (inf t) w l a c p h v = v
rescale (fin t m e) w l a c p h v = (v.0, eq_of_mul-eq-mul_right l p (m * up e * c) (a * down e) (omega (arith, ap (λ (z : ℕ). z * c) v.1, ap (λ (z : ℕ). z * down e) h)))

-- the pattern of 1 + t / 2^52
pub one_val : (t : ℕ) → t < 2 ^ 52 → HasValue (of_bits binary64 (t + 4607182418800017408)) false (2 ^ 52 + t) (2 ^ 52)
one_val t h =
    let b = t + 4607182418800017408 in
    let q : b / 2 ^ 52 ≡ 1023 = omega arith in
    let r : b % 2 ^ 52 ≡ t = omega arith in
    rescale (of_bits binary64 b) ((2 ^ 52 + t) * 2 ^ 1022) (2 ^ 1074) (2 ^ 52 + t) (2 ^ 52) (pow_pos 1074) (level (2 ^ 52 + t) (2 ^ 52) (2 ^ 1022)) (rw (q, r) at (normal_value b (omega arith) (omega arith)))
  where
    level : (x a b : ℕ) → x * (a * b) ≡ x * b * a
    level x a b = omega arith

zero_not : T (positive (of_bits binary64 0)) → ⊥
unfolding of_bits
zero_not p = p

module _ (x : Float) (f : T (fits binary64 x)) (p : T (positive x)) where
  back : of_bits binary64 (to_bits binary64 x) ≡ x
  back = of_bits-to_bits binary64 x f

  pub pattern_below : to_bits binary64 x < 0x7ff0_0000_0000_0000
  pattern_below = positive_below (to_bits binary64 x) (subst (λ (v : Float). T (positive v)) (sym back) p)

  pub pattern_pos : 0 < to_bits binary64 x
  pattern_pos = go (eq-zero-or-pos (to_bits binary64 x))
    where
      go : (to_bits binary64 x ≡ 0) ⊎ (0 < to_bits binary64 x) → 0 < to_bits binary64 x
      go (inl z) = absurd (zero_not (subst (λ (v : Float). T (positive v)) (sym back ∙ ap (of_bits binary64) z) p))
      go (inr h) = h

  pub normal_is : 2 ^ 52 ≤ to_bits binary64 x → HasValue x false ((2 ^ 52 + to_bits binary64 x % 2 ^ 52) * 2 ^ (to_bits binary64 x / 2 ^ 52 - 1)) (2 ^ 1074)
  normal_is l = let b = to_bits binary64 x in subst (λ (v : Float). HasValue v false ((2 ^ 52 + b % 2 ^ 52) * 2 ^ (b / 2 ^ 52 - 1)) (2 ^ 1074)) back (normal_value b l pattern_below)

  pub subnormal_is : to_bits binary64 x < 2 ^ 52 → HasValue x false (to_bits binary64 x) (2 ^ 1074)
  subnormal_is l = let b = to_bits binary64 x in subst (λ (v : Float). HasValue v false b (2 ^ 1074)) back (subnormal_value b l)

-- ---- a value that is 1 or more: the exponent's field is at least 1023
pub record Parts (x : Float) (E t : ℕ) : Type 0 where
  pub least : 1023 ≤ E
  pub most : E ≤ 2046
  pub value : HasValue x false ((2 ^ 52 + t) * 2 ^ (E - 1023)) (2 ^ 52)

module _ (x : Float) (f : T (fits binary64 x)) (p : T (positive x)) (one : den x ≤ num x) where
  not_below_one : (a : ℕ) → HasValue x false a (2 ^ 1074) → a < 2 ^ 1074 → ⊥
  not_below_one a h l = clash (num x) (den x) a (2 ^ 1074) (value→cross x a (2 ^ 1074) h) l one (den_pos x)
    where
      clash : (n d a c : ℕ) → n * c ≡ a * d → a < c → d ≤ n → 0 < d → ⊥
      clash n d a c e l k D = omega (arith, mul-lt-mul_of_pos_right l D, mul-le-mul_right c k)

  not_subnormal : 2 ^ 52 ≤ to_bits binary64 x
  not_subnormal = go (leb (2 ^ 52) (to_bits binary64 x)) (leb→le (2 ^ 52) (to_bits binary64 x)) (nleb→lt (2 ^ 52) (to_bits binary64 x))
    where
      go : (c : Bool) → (T c → 2 ^ 52 ≤ to_bits binary64 x) → (T (not c) → to_bits binary64 x < 2 ^ 52) → 2 ^ 52 ≤ to_bits binary64 x
      go true a b = a tt
      go false a b = absurd (not_below_one (to_bits binary64 x) (subnormal_is x f p (b tt)) (lt_of_lt_of_le (b tt) (lit≤ tt)))

  field_least : 1023 ≤ to_bits binary64 x / 2 ^ 52
  field_least = go (leb 1023 (to_bits binary64 x / 2 ^ 52)) (leb→le 1023 (to_bits binary64 x / 2 ^ 52)) (nleb→lt 1023 (to_bits binary64 x / 2 ^ 52))
    where
      under : (E t : ℕ) → E < 1023 → t < 2 ^ 52 → (2 ^ 52 + t) * 2 ^ (E - 1) < 2 ^ 1074
      under E t h l =
          let m : 2 ^ 52 + t < 2 ^ 53 = omega arith in
          let j : E - 1 ≤ 1021 = omega arith in
          lt_of_lt_of_le (mul-lt-mul_of_pos_right m (pow_pos (E - 1))) (le_trans (mul-le-mul_left (2 ^ 53) (pow_mono {i = E - 1} {j = 1021} j)) (lit≤ tt))

      go : (c : Bool) → (T c → 1023 ≤ to_bits binary64 x / 2 ^ 52) → (T (not c) → to_bits binary64 x / 2 ^ 52 < 1023) → 1023 ≤ to_bits binary64 x / 2 ^ 52
      go true a b = a tt
      go false a b =
          let n = to_bits binary64 x in
          absurd (not_below_one ((2 ^ 52 + n % 2 ^ 52) * 2 ^ (n / 2 ^ 52 - 1)) (normal_is x f p not_subnormal) (under (n / 2 ^ 52) (n % 2 ^ 52) (b tt) (mod-lt n (pow_pos 52))))

  pub parts_of : Parts x (to_bits binary64 x / 2 ^ 52) (to_bits binary64 x % 2 ^ 52)
  parts_of =
      let n = to_bits binary64 x in
      record {
        least = field_least;
        most = omega (arith, pattern_below x f p);
        value = rescale x ((2 ^ 52 + n % 2 ^ 52) * 2 ^ (n / 2 ^ 52 - 1)) (2 ^ 1074) ((2 ^ 52 + n % 2 ^ 52) * 2 ^ (n / 2 ^ 52 - 1023)) (2 ^ 52) (pow_pos 1074) (level (2 ^ 52 + n % 2 ^ 52) (n / 2 ^ 52) field_least) (normal_is x f p not_subnormal);
      }
    where
      turn : (m j a b : ℕ) → m * j * (a * b) ≡ m * (j * b) * a
      turn m j a b = omega arith

      level : (m E : ℕ) → 1023 ≤ E → m * 2 ^ (E - 1023) * 2 ^ 1074 ≡ m * 2 ^ (E - 1) * 2 ^ 52
      level m E g =
          let e : E - 1023 + 1022 ≡ E - 1 = omega arith in
          turn m (2 ^ (E - 1023)) (2 ^ 52) (2 ^ 1022) ∙ ap (λ (z : ℕ). m * z * 2 ^ 52) (sym (pow-add 2 (E - 1023) 1022) ∙ ap (λ (z : ℕ). 2 ^ z) e)

-- ---- the highest set bit of m, 0 < m < 2^53
pub record HighestBit (m : ℕ) : Type 0 where
  pub least : 11 ≤ count_leading_zeros 64 m
  pub most : count_leading_zeros 64 m ≤ 63
  pub low : 2 ^ 52 ≤ m * 2 ^ (count_leading_zeros 64 m - 11)
  pub high : m * 2 ^ (count_leading_zeros 64 m - 11) < 2 ^ 53

at_place : (m z j : ℕ) → z + suc j ≡ 64 → j < 53 → 2 ^ j ≤ m → m < 2 ^ suc j → (2 ^ 52 ≤ m * 2 ^ (z - 11)) × (m * 2 ^ (z - 11) < 2 ^ 53)
at_place m z j e hj lo hi =
    let s : z - 11 ≡ 52 - j = omega arith in
    let low_sum : j + (52 - j) ≡ 52 = omega arith in
    let high_sum : suc j + (52 - j) ≡ 53 = omega arith in
    let low-pow : 2 ^ j * 2 ^ (52 - j) ≡ 2 ^ 52 = sym (pow-add 2 j (52 - j)) ∙ ap (λ (k : ℕ). 2 ^ k) low_sum in
    let high-pow : 2 ^ suc j * 2 ^ (52 - j) ≡ 2 ^ 53 = sym (pow-add 2 (suc j) (52 - j)) ∙ ap (λ (k : ℕ). 2 ^ k) high_sum in
    rw s (rw low-pow at (mul-le-mul_right (2 ^ (52 - j)) lo), rw high-pow at (mul-lt-mul_of_pos_right hi (pow_pos (52 - j))))

pub highest_bit : (m : ℕ) → 0 < m → m < 2 ^ 53 → HighestBit m
highest_bit m h l =
    let t = leading_top 64 m h (omega arith) in
    let j = t.0 in
    let hj : j < 53 = lt_of_not-le (λ (k : 53 ≤ j). lt_irrefl m (lt_of_lt_of_le l (le_trans (pow_mono k) t.2))) in
    let b = at_place m (count_leading_zeros 64 m) j t.1 hj t.2 t.3 in
    record { least = omega (arith, t.1); most = omega (arith, t.1); low = b.0; high = b.1 }

-- ---- the tests of ln: what passes them is positive and finite
same_zero : (u d : ℕ) → T (eqb (0 * u * 1) (0 * 1 * d) && eqb (0 * u * 1) 0)
same_zero u d = rw (zero-mul u, zero-mul d) tt

not_zero : (m u d : ℕ) → 0 < u → T (eqb (0 * 1 * d) (suc m * u * 1) && eqb (0 * 1 * d) 0) → ⊥
not_zero m u d U t =
    let e : 0 * 1 * d ≡ suc m * u * 1 = eqb→eq (0 * 1 * d) (suc m * u * 1) (and_l (eqb (0 * 1 * d) (suc m * u * 1)) (eqb (0 * 1 * d) 0) t) in
    let h : 0 < suc m * u = mul-pos (zero-lt-suc m) U in
    omega arith

pub positive_tested : (x : Float) → le +0 x ≡ true → eq x +0 ≡ false → eq x (inf false) ≡ false → T (positive x)
unfolding le lt eq of_bits
positive_tested nan p q r = absurd (subst T (sym p) tt)
positive_tested (inf true) p q r = absurd (subst T (sym p) tt)
positive_tested (inf false) p q r = absurd (subst T r tt)
positive_tested (fin false zero e) p q r = absurd (subst T q (and_i (eqb (0 * up e * 1) (0 * 1 * down e)) true (and_l (eqb (0 * up e * 1) (0 * 1 * down e)) (eqb (0 * up e * 1) 0) (same_zero (up e) (down e))) tt))
positive_tested (fin false (suc m) e) p q r = subst T (sym (lt-ltb 0 (suc m) (zero-lt-suc m))) tt
positive_tested (fin true zero e) p q r = absurd (subst T q (same_zero (up e) (down e)))
positive_tested (fin true (suc m) e) p q r = absurd (not_zero m (up e) (down e) (up_pos e) (subst T (sym p) tt))

pub positive_number : (x : Float) → T (positive x) → T (not (is_nan x))
unfolding is_nan
positive_number x p = of_positive (λ (v : Float). T (not (is_nan v))) (λ m e M. tt) x p

-- and the other way round
pub positive_tests : (x : Float) → T (positive x) → (le +0 x ≡ true) × (eq x +0 ≡ false) × (eq x (inf false) ≡ false)
unfolding le lt eq of_bits
positive_tests nan p = absurd p
positive_tests (inf s) p = absurd p
positive_tests (fin true m e) p = absurd p
positive_tests (fin false m e) p =
    let h : 0 < m * up e = mul-pos (ltb→lt 0 m p) (up_pos e) in
    let z : 0 * down e ≡ 0 = zero-mul (down e) in (
      rw (lt-ltb (0 * down e) (m * up e * 1) (omega arith)),
      rw (ne_eqb (m * up e * 1) (0 * down e) (λ k. omega arith)),
      refl,
    )
