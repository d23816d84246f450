-- The root of a whole number: `root_of` gives the one q with q² ≤ n < (q + 1)², and the loop of `digits` finds it. Assumes nothing.
use mathlib.Core.Path.{◌≡◌, refl, sym, ap, ◌∙◌, subst}
use mathlib.Core.Bool.{Bool, true, false, cond, not, ◌&&◌}
use Prim.Native.Nat.{ℕ, zero, suc, ◌+◌, ◌-◌, ◌*◌, ◌/◌, ◌%◌, ◌^◌, ◌≤◌, ◌<◌}
use native.Mathlib.Nat.{le_antisymm, le_of_suc-le-suc, lt_of_not-le, lt_irrefl, lt_of_lt_of_le, le_trans, le_of_eq, mul-le-mul, mul-le-mul_right, lt_of_mul-lt-mul_right, pow-suc, lt_of_le_of_lt}
use native.Mathlib.Omega.{arith}
use lib.Dec.{T, leb, ltb, leb→le, ltb→lt, nleb→lt}
use lib.Ieee.Fits.{and_l, and_r}
use lib.Pow.{pow_pos}
use Rattle.elementary_sqrt.specs.Sqrt.{with_digit, root_of, nearest_root, significand_of, exponent_of, root_bits}

-- ---- the root
pub record Root (n q : ℕ) : Type 0 where
  pub low : q * q ≤ n
  pub high : n < (q + 1) * (q + 1)

root_le : (n a b : ℕ) → Root n a → Root n b → a ≤ b
root_le n a b r s =
    le_of_suc-le-suc
    (lt_of_not-le (λ (g : suc b ≤ a).
    let h : b + 1 ≤ a = omega arith in
    lt_irrefl n (lt_of_lt_of_le s.high (le_trans (mul-le-mul h h) r.low))))

pub root_unique : (n a b : ℕ) → Root n a → Root n b → a ≡ b
root_unique n a b r s = le_antisymm (root_le n a b r s) (root_le n b a s r)

-- one digit more
digit_more : (n q : ℕ) (b : Bool) → (T b → (2 * q + 1) * (2 * q + 1) ≤ n) → (T (not b) → n < (2 * q + 1) * (2 * q + 1)) → Root (n / 4) q → Root n (cond b (2 * q + 1) (2 * q))
digit_more n q true h k r = let l = h tt in let g = r.high in record { low = l; high = omega arith }
digit_more n q false h k r = let l = k tt in let g = r.low in record { low = omega arith; high = omega arith }

pub root_is : (d n : ℕ) → n < 4 ^ d → Root n (root_of d n)
unfolding root_of with_digit
root_is zero n h = record { low = omega arith; high = omega arith }
root_is (suc d) n h =
    let g : n < 4 ^ d * 4 = rw (pow-suc 4 d) at h in
    let quarter : n / 4 < 4 ^ d = omega arith in
    let q = root_of d (n / 4) in
    digit_more n q (leb ((2 * q + 1) * (2 * q + 1)) n) (leb→le _ _) (nleb→lt _ _) (root_is d (n / 4) quarter)

-- ---- the loop: i of 54 digits are found, and stand in q; 2 (n - q²) = left × unit
pub record Found (n i q left bit : ℕ) : Type 0 where
  pub unit : ℕ
  pub is : unit ≡ 2 ^ (54 - i)
  pub half : bit ≡ unit / 2
  pub rest : 2 * (q * q) + left * unit ≡ 2 * n
  pub below : n < (q + unit) * (q + unit)
  pub room : q + unit ≤ 2 ^ 54

pub found_first : (x : ℕ) → x < 2 ^ 54 → Found (x * 2 ^ 54) 0 0 (2 * x) (2 ^ 53)
found_first x h = record {
  unit = 2 ^ 54;
  is = refl;
  half = refl;
  rest = omega arith;
  below = omega arith;
  room = omega arith;
}

-- what is left is small
cancelled : (l q u : ℕ) → l * u < (4 * q + 2 * u) * u → l < 4 * q + 2 * u
cancelled l q u h = lt_of_mul-lt-mul_right u h

pub found_left : (n i q left bit : ℕ) → Found n i q left bit → left < 2 ^ 56
found_left n i q left bit f =
    let u = f.unit in
    let e = f.rest in
    let b = f.below in
    let small : left < 4 * q + 2 * u = cancelled left q u (omega arith) in
    let r = f.room in
    omega arith

-- the unit before a digit is found is twice its bit
pub twice_bit : (n i q left bit : ℕ) → i < 54 → (f : Found n i q left bit) → f.unit ≡ bit * 2
twice_bit n i q left bit h f =
    let e : 54 - i ≡ suc (54 - (i + 1)) = omega arith in
    let p : f.unit ≡ 2 ^ (54 - (i + 1)) * 2 = f.is ∙ ap (λ (k : ℕ). 2 ^ k) e ∙ pow-suc 2 (54 - (i + 1)) in
    let g = f.half in
    omega arith

next_unit : (n i q left bit : ℕ) → i < 54 → (f : Found n i q left bit) → bit ≡ 2 ^ (54 - (i + 1))
next_unit n i q left bit h f =
    let e : 54 - i ≡ suc (54 - (i + 1)) = omega arith in
    let p : f.unit ≡ 2 ^ (54 - (i + 1)) * 2 = f.is ∙ ap (λ (k : ℕ). 2 ^ k) e ∙ pow-suc 2 (54 - (i + 1)) in
    let g = f.half in
    omega arith

-- the digit is 1
pub found_one : (n i q left bit : ℕ) → i < 54 → Found n i q left bit → 2 * q + bit ≤ left → Found n (i + 1) (q + bit) (2 * (left - (2 * q + bit))) (bit / 2)
found_one n i q left bit h f t =
    let u = f.unit in
    let tw : u ≡ bit * 2 = twice_bit n i q left bit h f in
    let e : 2 * (q * q) + left * (bit * 2) ≡ 2 * n = rw tw at f.rest in
    let b : n < (q + bit * 2) * (q + bit * 2) = rw tw at f.below in
    let r : q + bit * 2 ≤ 2 ^ 54 = rw tw at f.room in
    record {
      unit = bit;
      is = next_unit n i q left bit h f;
      half = refl;
      rest = one_rest n q left bit e t;
      below = omega arith;
      room = omega arith;
    }
  where
    over : (q left bit d : ℕ) → left ≡ d + (2 * q + bit) → 2 * (q * q) + left * (bit * 2) ≡ 2 * ((q + bit) * (q + bit)) + 2 * d * bit
    over q left bit d e = rw e (omega arith)

    one_rest : (n q left bit : ℕ) → 2 * (q * q) + left * (bit * 2) ≡ 2 * n → 2 * q + bit ≤ left → 2 * ((q + bit) * (q + bit)) + 2 * (left - (2 * q + bit)) * bit ≡ 2 * n
    one_rest n q left bit e t = sym (over q left bit (left - (2 * q + bit)) (omega arith)) ∙ e

-- the digit is 0
pub found_zero : (n i q left bit : ℕ) → i < 54 → Found n i q left bit → left < 2 * q + bit → Found n (i + 1) q (2 * left) (bit / 2)
found_zero n i q left bit h f t =
    let u = f.unit in
    let tw : u ≡ bit * 2 = twice_bit n i q left bit h f in
    let e : 2 * (q * q) + left * (bit * 2) ≡ 2 * n = rw tw at f.rest in
    let r : q + bit * 2 ≤ 2 ^ 54 = rw tw at f.room in
    let p : 0 < bit = subst (λ (k : ℕ). 0 < k) (sym (next_unit n i q left bit h f)) (pow_pos (54 - (i + 1))) in
    let m : left * bit + bit ≤ (2 * q + bit) * bit = zero_less left q bit t in
    record {
      unit = bit;
      is = next_unit n i q left bit h f;
      half = refl;
      rest = omega arith;
      below = omega arith;
      room = omega arith;
    }
  where
    zero_less : (left q bit : ℕ) → left < 2 * q + bit → left * bit + bit ≤ (2 * q + bit) * bit
    zero_less left q bit t = let g : left + 1 ≤ 2 * q + bit = omega arith in omega (arith, mul-le-mul_right bit g)

-- all digits are found
pub found_all : (n q left bit : ℕ) → n < 4 ^ 54 → Found n 54 q left bit → q ≡ root_of 54 n
found_all n q left bit h f =
    let u : f.unit ≡ 1 = f.is in
    let e : 2 * (q * q) + left * 1 ≡ 2 * n = rw u at f.rest in
    let b : n < (q + 1) * (q + 1) = rw u at f.below in
    root_unique n q (root_of 54 n) (record { low = omega arith; high = b }) (root_is 54 n h)

-- ---- the whole number nearest to a root
pub nearest_small : (n : ℕ) → n < 2 ^ 106 → nearest_root n ≤ 2 ^ 53
unfolding nearest_root
nearest_small n h =
    let r = root_is 54 (4 * n) (omega arith) in
    let below : root_of 54 (4 * n) < 2 ^ 54 = lt_of_not-le (λ (g : 2 ^ 54 ≤ root_of 54 (4 * n)). lt_irrefl (4 * n) (lt_of_lt_of_le (omega arith) (le_trans (mul-le-mul g g) r.low))) in
    omega arith

pub nearest_bound : (x q : ℕ) → x < 2 ^ 54 → q ≡ nearest_root (x * 2 ^ 52) → q ≤ 2 ^ 53
nearest_bound x q h e = le_trans (le_of_eq e) (nearest_small (x * 2 ^ 52) (omega arith))

-- by the root's digits
pub nearest_digits : (x r : ℕ) → r ≡ root_of 54 (x * 2 ^ 54) → (r + 1) / 2 ≡ nearest_root (x * 2 ^ 52)
unfolding nearest_root
nearest_digits x r e = let f : x * 2 ^ 54 ≡ 4 * (x * 2 ^ 52) = omega arith in ap (λ (k : ℕ). (k + 1) / 2) (e ∙ ap (root_of 54) f)

-- q² - q < n ≤ q² + q says that q is nearest
rounded : (n q r : ℕ) → Root (4 * n) r → q * q < n + q → n ≤ q * q + q → q ≡ (r + 1) / 2
rounded n q r s l h =
    let most : r < 2 * q + 1 = lt_of_not-le (λ (g : 2 * q + 1 ≤ r). let e : (2 * q + 1) * (2 * q + 1) ≤ r * r = mul-le-mul g g in lt_irrefl (r * r) (lt_of_le_of_lt s.low (lt_of_lt_of_le (omega arith) e))) in
    let least : 2 * q < r + 2 = lt_of_not-le (λ (g : r + 2 ≤ 2 * q). under (2 * q - 1) (omega arith) (omega arith)) in
    omega arith
  where
    under : (p : ℕ) → p + 1 ≡ 2 * q → r + 1 ≤ p → ⊥
    under p e g =
        let square : (p + 1) * (p + 1) ≡ 2 * q * (2 * q) = ap (λ (v : ℕ). v * v) e in
        let more : (r + 1) * (r + 1) ≤ p * p = mul-le-mul g g in
        let t = s.high in
        omega arith

pub nearest_is : (n q : ℕ) → n < 2 ^ 106 → q * q < n + q → n ≤ q * q + q → q ≡ nearest_root n
unfolding nearest_root
nearest_is n q h l k = rounded n q (root_of 54 (4 * n)) (root_is 54 (4 * n) (omega arith)) l k

-- with q = high × 2 ^ 26 + low, a × 2 ^ 27 is n - q² + low² + 2 ^ 54
module _ (x q high low a : ℕ) (x-small : x < 2 ^ 54) (parts : q ≡ high * 2 ^ 26 + low) (a-is : a + high * low + high * high * 2 ^ 25 ≡ (x + 4) * 2 ^ 25) where
  square : q * q ≡ high * high * 2 ^ 52 + high * low * 2 ^ 27 + low * low
  square = rw parts (omega arith)

  nearest_parts : 2 ^ 54 + low * low < a * 2 ^ 27 + q → a * 2 ^ 27 ≤ 2 ^ 54 + low * low + q → q ≡ nearest_root (x * 2 ^ 52)
  nearest_parts l k =
      let s = square in
      let below : q * q < x * 2 ^ 52 + q = omega arith in
      let above : x * 2 ^ 52 ≤ q * q + q = omega arith in
      nearest_is (x * 2 ^ 52) q (omega arith) below above

-- what the test of `is_nearest` says
pub nearest_tested : (x q high low : ℕ) → x < 2 ^ 54 → high ≡ q / 2 ^ 26 → low ≡ q % 2 ^ 26 → high * high ≤ x + 4 → high * low ≤ (x + 4 - high * high) * 2 ^ 25
    → (ltb (2 ^ 54 + low * low) (((x + 4 - high * high) * 2 ^ 25 - high * low) * 2 ^ 27 + q) && leb (((x + 4 - high * high) * 2 ^ 25 - high * low) * 2 ^ 27) (2 ^ 54 + low * low + q)) ≡ true
    → q ≡ nearest_root (x * 2 ^ 52)
nearest_tested x q high low h eh el l k t =
    let a = (x + 4 - high * high) * 2 ^ 25 - high * low in
    let b = ltb (2 ^ 54 + low * low) (a * 2 ^ 27 + q) in
    let c = leb (a * 2 ^ 27) (2 ^ 54 + low * low + q) in
    let u : T (b && c) = subst T (sym t) tt in
    nearest_parts x q high low a h (omega arith) (omega arith) (ltb→lt _ _ (and_l b c u)) (leb→le _ _ (and_r b c u))

-- the products fit
pub square_small : (q : ℕ) → q < 2 ^ 55 → q / 2 ^ 26 * (q / 2 ^ 26) ≤ 2 ^ 58
square_small q h = let g : q / 2 ^ 26 ≤ 2 ^ 29 = omega arith in mul-le-mul g g

pub cross_small : (q : ℕ) → q < 2 ^ 55 → q / 2 ^ 26 * (q % 2 ^ 26) ≤ 2 ^ 55
cross_small q h = let g : q / 2 ^ 26 ≤ 2 ^ 29 = omega arith in let k : q % 2 ^ 26 ≤ 2 ^ 26 = omega arith in mul-le-mul g k

pub low_small : (q : ℕ) → q % 2 ^ 26 * (q % 2 ^ 26) ≤ 2 ^ 52
low_small q = let k : q % 2 ^ 26 ≤ 2 ^ 26 = omega arith in mul-le-mul k k

-- ---- the radicand with the exponent's odd part, as code has it
pub radicand_odd : (m e : ℕ) → e % 2 ≡ 1 → 2 * m * 2 ^ 52 ≡ m * 2 ^ (52 + e % 2)
radicand_odd m e h = rw h (omega arith)

pub radicand_even : (m e : ℕ) → e % 2 ≡ 0 → m * 2 ^ 52 ≡ m * 2 ^ (52 + e % 2)
radicand_even m e h = rw h (omega arith)

pub bits_of : (b q e m r : ℕ) → e ≡ exponent_of b → m ≡ significand_of b → r * 2 ^ 52 ≡ m * 2 ^ (52 + e % 2) → q ≡ nearest_root (r * 2 ^ 52) → (e / 2 - 1) * 2 ^ 52 + q ≡ root_bits b
unfolding root_bits
bits_of b q e m r he hm hr hq = rw (hq, hr, he, hm)
