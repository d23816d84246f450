-- "Every answer of exp keeps its bits" (request 04): the entry with the power of two in its field, and its product with the polynomial, add up to the bits that the sum of the plain ones
-- had when it was multiplied by that power. Assumes nothing.
use mathlib.Core.Path.{◌≡◌, refl, sym, ap}
use mathlib.Core.Bool.{Bool, true, false, ◌&&◌}
use Prim.Native.Nat.{ℕ, ◌+◌, ◌*◌, ◌/◌, ◌%◌, ◌^◌, ◌≤◌, ◌<◌}
use native.Mathlib.Nat.{le_trans, le_antisymm, mul-pos, mul-le-mul, mul-le-mul_right, mul-le-mul_left, le_of_mul-le-mul_right, eq_of_mul-eq-mul_right}
use native.Mathlib.Omega.{arith}
use lib.Dec.{lit≤}
use lib.Pow.{pow_pos, pow_mono}
use lib.Ieee.{Float, nan, inf, binary64, neg, lt, ne}
use lib.Ieee.Fits.{add-fits}
use lib.Ieee.Positive.{num, den, positive_of_value, value→cross}
use Rattle.numerics.specs.Double.{◌⊕◌, ◌⊗◌, +0, one, pick}
use Rattle.numerics.specs.Frac.{Frac, ◌⊞◌, ◌⊠◌, le_of_under}
use Rattle.numerics.specs.Round.{val, Rel, Normal}
use Rattle.numerics.specs.Scaled.{Ratio, ratio_mul, ratio_add, Scaled, scaled_mul, scaled_add, scaled_is}
use Rattle.elementary_exp.specs.Exp.{counted_of, steps_of, polynomial_of, scaled_entry, within_of, most, least, exp_of}
use Rattle.elementary_exp.specs.Range.{InRange}
use Rattle.elementary_exp.proofs.ExpConstants.{least_power, most_power, powers, zero_power}
use Rattle.elementary_exp.proofs.ExpEntries.{table_entry, significand, entry_value, scaled_value}
use Rattle.elementary_exp.proofs.ExpSteps.{steps_reach, normal_crude}
use Rattle.elementary_exp.proofs.ExpTableGood.{Entry, entry_good}
use Rattle.elementary_exp.proofs.ExpTests.{in_range}
use Rattle.elementary_distance.proofs.ExpEarlier.{scale_of, earlier_within_of, earlier_exp_of}
use Rattle.elementary_distance.proofs.ExpFloat.{p_pos, p_least, p_most, tp_most}
use Rattle.elementary_distance.proofs.ExpPower.{scale, power_rel}
use Rattle.elementary_distance.proofs.ExpRemainder.{reduced, reduced_rel, r_hi, r_lo, remainder_is}

-- ---- a fraction between 1 / 2048 and 2048, and the same times a power of two that the steps have, are in the normal range
record Moderate (q : Frac) : Type 0 where
  least : q.bot ≤ q.top * 2048
  most : q.top ≤ q.bot * 2048

plain_normal : (q : Frac) → Moderate q → Normal q
plain_normal q m = normal_crude q (le_trans m.least (mul-le-mul_left q.top (lit≤ tt))) (le_trans m.most (mul-le-mul_left q.bot (lit≤ tt)))

scaled_normal : (n : ℕ) → least_power ≤ n → n ≤ most_power → (q s : Frac) → Moderate q → Ratio n zero_power q s → Normal s
scaled_normal n l h q s m e = record {
  least = low s.top s.bot q.top q.bot (2 ^ zero_power) (2 ^ n) (2 ^ 1022) (mul-pos q.good (pow_pos zero_power)) e m.least (le_trans {m = 2 ^ least_power * 2 ^ 1022} (lit≤ tt) (mul-le-mul_right (2 ^ 1022) (pow_mono l)));
  most = high s.top s.bot q.top q.bot (2 ^ zero_power) (2 ^ n) (2 ^ 1023) (mul-pos q.good (pow_pos zero_power)) e m.most (le_trans (mul-le-mul_left 2048 (pow_mono h)) (lit≤ tt));
}
  where
    low : (s b q d A N M : ℕ) → 0 < d * A → s * d * A ≡ q * b * N → d ≤ q * 2048 → 2048 * A ≤ N * M → b ≤ s * M
    low s b q d A N M P e h k = le_of_mul-le-mul_right {k = d * A} (omega (arith, mul-le-mul_right (b * A) h, mul-le-mul_left (b * q) k, ap (λ (z : ℕ). z * M) e)) P

    high : (s b q d A N M : ℕ) → 0 < d * A → s * d * A ≡ q * b * N → q ≤ d * 2048 → 2048 * N ≤ A * M → s ≤ b * M
    high s b q d A N M P e h k = le_of_mul-le-mul_right {k = d * A} (omega (arith, mul-le-mul_right (b * N) h, mul-le-mul_left (b * d) k, e)) P

module _ (x : Float) (range : InRange x) where
  abbrev u : ℕ
  u = steps_of (counted_of x)

  abbrev j : ℕ
  j = u % 64

  abbrev n : ℕ
  n = u / 64

  abbrev t : Float
  t = table_entry j

  abbrev s : Float
  s = scaled_entry j n

  abbrev p : Float
  p = polynomial_of (reduced x range)

  j_few : j < 64
  j_few = omega arith

  n_range : (least_power ≤ n) × (n ≤ most_power)
  n_range = let r = steps_reach x range in powers u r.some r.few

  entry : Entry j t
  entry = entry_good j j_few

  base : Scaled n zero_power t s
  base =
      let g = n_range in
      let v = scaled_value j n j_few (omega arith) (omega arith) in
      record {
        first = entry.pos;
        second = positive_of_value s (significand j * 2 ^ n) (2 ^ 52 * 2 ^ 2048) v (mul-pos (omega arith) (pow_pos n));
        ratio = cross (num t) (den t) (num s) (den s) (significand j) (2 ^ 52) (2 ^ n) (2 ^ 2048) (pow_pos 52) (value→cross t (significand j) (2 ^ 52) (entry_value j j_few)) (value→cross s (significand j * 2 ^ n) (2 ^ 52 * 2 ^ 2048) v);
      }
    where
      cross : (a b c d m L N Z : ℕ) → 0 < L → a * L ≡ m * b → c * (L * Z) ≡ m * N * d → c * b * Z ≡ a * d * N
      cross a b c d m L N Z P h k = eq_of_mul-eq-mul_right L P (c * b * Z) (a * d * N) (omega (arith, ap (λ (z : ℕ). z * (d * N)) h, ap (λ (z : ℕ). z * b) k))

  r_small : num (reduced x range) * 100 ≤ 2 * den (reduced x range)
  r_small = omega (arith, r_hi x range)

  r_large : den (reduced x range) ≤ num (reduced x range) * 1000
  r_large = omega (arith, r_lo x range)

  product_moderate : Moderate (val t ⊠ val p)
  product_moderate =
      let r = reduced x range in
      let q = (reduced_rel x range).pos in
      record { least = low (num t) (den t) (num p) (den p) entry.low (p_least r t q r_small r_large j entry); most = high (num t) (den t) (num p) (den p) entry.high (p_most r t q r_small r_large j entry) }
    where
      low : (n d a b : ℕ) → d ≤ n → b ≤ a * 2000 → d * b ≤ n * a * 2048
      low n d a b h k = omega (arith, mul-le-mul h k)

      high : (n d a b : ℕ) → n ≤ 2 * d → a ≤ 6 * b → n * a ≤ d * b * 2048
      high n d a b h k = omega (arith, mul-le-mul h k)

  product : Scaled n zero_power (t ⊗ p) (s ⊗ p)
  product =
      scaled_mul n zero_power t s p base (p_pos (reduced x range) t (reduced_rel x range).pos r_small r_large j entry) (plain_normal (val t ⊠ val p) product_moderate)
      (scaled_normal n n_range.0 n_range.1 (val t ⊠ val p) (val s ⊠ val p) product_moderate (ratio_mul n zero_power (val t) (val s) (val p) base.ratio))

  sum_moderate : Moderate (val t ⊞ val (t ⊗ p))
  sum_moderate = record {
    least = low (num t) (den t) (num (t ⊗ p)) (den (t ⊗ p)) entry.low;
    most = high (num t) (den t) (num (t ⊗ p)) (den (t ⊗ p)) entry.high (tp_most (reduced x range) t (reduced_rel x range).pos r_small r_large j entry);
  }
    where
      low : (n d a b : ℕ) → d ≤ n → d * b ≤ (n * b + a * d) * 2048
      low n d a b h = omega (arith, mul-le-mul_right b h)

      high : (n d a b : ℕ) → n ≤ 2 * d → a ≤ 12 * b → n * b + a * d ≤ d * b * 2048
      high n d a b h k = omega (arith, mul-le-mul_right b h, mul-le-mul_right d k)

  total : Scaled n zero_power (t ⊕ t ⊗ p) (s ⊕ s ⊗ p)
  total =
      scaled_add n zero_power t s (t ⊗ p) (s ⊗ p) base product (plain_normal (val t ⊞ val (t ⊗ p)) sum_moderate)
      (scaled_normal n n_range.0 n_range.1 (val t ⊞ val (t ⊗ p)) (val s ⊞ val (s ⊗ p)) sum_moderate (ratio_add n zero_power (val t) (val s) (val (t ⊗ p)) (val (s ⊗ p)) base.ratio product.ratio))

  power : Rel 0 (scale_of n) (scale n)
  power = let g = n_range in power_rel n (omega arith) (omega arith)

  power_is : num (scale_of n) * 2 ^ zero_power ≡ 2 ^ n * den (scale_of n)
  power_is = le_antisymm (le_of_under (val (scale_of n)) (scale n) power.near.le) (le_of_under (scale n) (val (scale_of n)) power.near.ge)

  pub within_kept : within_of x ≡ earlier_within_of x
  unfolding within_of earlier_within_of
  within_kept = rw (remainder_is x range) (sym (scaled_is n zero_power (t ⊕ t ⊗ p) (s ⊕ s ⊗ p) (scale_of n) total (add-fits binary64 s (s ⊗ p)) power.pos power_is))

-- for every double: NaN, infinities and zeros included
pub exp_kept : (x : Float) → exp_of x ≡ earlier_exp_of x
unfolding exp_of earlier_exp_of
exp_kept x = number (ne x x) refl
  where
    small : (a : Bool) → (lt (neg least) x && lt x least) ≡ a → ne x x ≡ false → lt most x ≡ false → lt x (neg most) ≡ false → pick a one (within_of x) ≡ pick a one (earlier_within_of x)
    small true e n m l = refl
    small false e n m l = within_kept x (in_range x n m l e)

    lower : (a : Bool) → lt x (neg most) ≡ a → ne x x ≡ false → lt most x ≡ false
        → pick a +0 (pick (lt (neg least) x && lt x least) one (within_of x)) ≡ pick a +0 (pick (lt (neg least) x && lt x least) one (earlier_within_of x))
    lower true e n m = refl
    lower false e n m = small (lt (neg least) x && lt x least) refl n m e

    upper : (a : Bool) → lt most x ≡ a → ne x x ≡ false
        → pick a (inf false) (pick (lt x (neg most)) +0 (pick (lt (neg least) x && lt x least) one (within_of x)))
        ≡ pick a (inf false) (pick (lt x (neg most)) +0 (pick (lt (neg least) x && lt x least) one (earlier_within_of x)))
    upper true e n = refl
    upper false e n = lower (lt x (neg most)) refl n e

    number : (a : Bool) → ne x x ≡ a
        → pick a nan (pick (lt most x) (inf false) (pick (lt x (neg most)) +0 (pick (lt (neg least) x && lt x least) one (within_of x))))
        ≡ pick a nan (pick (lt most x) (inf false) (pick (lt x (neg most)) +0 (pick (lt (neg least) x && lt x least) one (earlier_within_of x))))
    number true e = refl
    number false e = upper (lt most x) refl e
