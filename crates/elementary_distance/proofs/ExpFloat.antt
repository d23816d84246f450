-- The exponential's polynomial, table entry and power of two in binary64: the answer is within 15 roundings of 2 ^ (u / 64 - 2048) * entry * (sum of the series at r to degree 6). Assumes nothing.
use mathlib.Core.Path.{◌≡◌, refl, sym}
use Prim.Native.Nat.{ℕ, ◌+◌, ◌*◌, ◌^◌, ◌≤◌, ◌<◌}
use native.Mathlib.Nat.{le_trans, le_of_eq, mul-one, mul-le-mul, mul-le-mul_right, mul-le-mul_left, le_of_mul-le-mul_right}
use native.Mathlib.Omega.{arith}
use lib.Dec.{T, lit≤}
use lib.Pow.{pow_mono}
use lib.Ieee.{Float, binary64, add, mul}
use lib.Ieee.Positive.{num, den, positive, den_pos}
use Rattle.numerics.specs.Double.{one}
use Rattle.numerics.specs.Frac.{Frac, ◌⊑◌, ◌⊞◌, ◌⊠◌, nat, ⊑_trans, Close, close_refl, close_mul, close_trans, close_same, le_of_under}
use Rattle.numerics.specs.Round.{val, Rel}
use Rattle.numerics.specs.Rel.{Ample, rel_exact, rel_weaken, rel_trans, rel_mul, rel_add, under_double}
use Rattle.numerics.specs.Series.{sum_top, sum_bot, S}
use Rattle.numerics.specs.Horner.{fact, one_over, taylor, taylor_is, horner, count, horner_rel}
use Rattle.numerics.specs.Tail.{S-one, tiny_above}
use Rattle.elementary_exp.specs.Exp.{polynomial_of}
use Rattle.elementary_exp.proofs.ExpTableGood.{Entry}
use Rattle.elementary_distance.proofs.ExpEarlier.{scale_of}
use Rattle.elementary_distance.proofs.ExpPower.{scale, power_rel}
use Rattle.elementary_exp.proofs.ExpConstants.{later, one_good, later_good, least_power, most_power, zero_power}

polynomial_is : (r : Float) → polynomial_of r ≡ mul binary64 r (horner one later r)
unfolding polynomial_of horner
polynomial_is r = refl

-- ---- r * (1 + r * (1 / 2 + ..)), exactly
abbrev inner : Frac → Frac
inner x = taylor 1 5 x

inner_least : (x : Frac) → (inner x).bot ≤ (inner x).top
unfolding taylor fact
inner_least x = go (x.bot * (taylor 2 4 x).bot) (x.top * (taylor 2 4 x).top)
  where
    go : (d t : ℕ) → 1 * d ≤ 1 * d + t * 1
    go d t = omega arith

whole_is : (x : Frac) → Close 0 (one_over 0 ⊞ x ⊠ inner x) (S 6 x)
unfolding taylor
whole_is x = taylor_is 6 x

-- 1 + x * inner is at most 3
whole_most : (x : Frac) → x.top ≤ x.bot → one_over 0 ⊞ x ⊠ inner x ⊑ nat 3
whole_most x h =
    ⊑_trans (one_over 0 ⊞ x ⊠ inner x) (S 6 x) (nat 3) (le_of_under (one_over 0 ⊞ x ⊠ inner x) (S 6 x) (whole_is x).le)
    (⊑_trans (S 6 x) (record { top = x.bot + 2 * x.top; bot = x.bot; good = x.good }) (nat 3) (tiny_above x h 6) (omega arith))

part_most : (x : Frac) → x.top ≤ x.bot → x ⊠ inner x ⊑ nat 3
part_most x h = go (fact 0) (x.bot * (inner x).bot) (x.top * (inner x).top) one_fact (whole_most x h)
  where
    one_fact : fact 0 ≡ 1
    one_fact = unfold fact in refl

    go : (f d t : ℕ) → f ≡ 1 → (1 * d + t * f) * 1 ≤ 3 * (f * d) → t * 1 ≤ 3 * d
    go f d t e h = drop d t (rw e at h)
      where
        drop : (d t : ℕ) → (1 * d + t * 1) * 1 ≤ 3 * (1 * d) → t * 1 ≤ 3 * d
        drop d t h = omega arith

-- ---- in range
ample_of : (q : Frac) → q.bot ≤ q.top * 1024 → q.top ≤ q.bot * 1024 → Ample q
ample_of q a b = record { least = le_trans a (mul-le-mul_left q.top (lit≤ tt)); most = le_trans b (mul-le-mul_left q.bot (lit≤ tt)) }

module _ (r t : Float) (rp : T (positive r)) (r_hi : num r * 100 ≤ 2 * den r) (r_lo : den r ≤ num r * 1000) (j : ℕ) (entry : Entry j t) where
  r_one : num r ≤ den r
  r_one = omega (arith, r_hi)

  h_rel : Rel 11 (horner one later r) (inner (val r))
  unfolding count fact
  h_rel = horner_rel r (2 ^ 60) rp r_one (le_trans r_lo (mul-le-mul_left (num r) (lit≤ tt))) (lit≤ tt) (lit≤ tt) 1 one later one_good later_good (lit≤ tt) (lit≤ tt)

  p_rel : Rel 12 (polynomial_of r) (val r ⊠ inner (val r))
  p_rel =
      rw (polynomial_is r)
      (rel_mul 0 11 r (horner one later r) (val r) (inner (val r)) (rel_exact r rp) h_rel (lit≤ tt)
      (ample_of (val r ⊠ inner (val r)) (low (num r) (den r) (inner (val r)).top (inner (val r)).bot r_lo (inner_least (val r))) (high (num r * (inner (val r)).top) (den r * (inner (val r)).bot) (part_most (val r) r_one))))
    where
      low : (n d t b : ℕ) → d ≤ n * 1000 → b ≤ t → d * b ≤ n * t * 1024
      low n d t b h k = omega (arith, mul-le-mul h k)

      high : (t d : ℕ) → t * 1 ≤ 3 * d → t ≤ d * 1024
      high t d h = omega arith

  abbrev p : Float
  p = polynomial_of r

  pub p_pos : T (positive p)
  p_pos = p_rel.pos

  -- the polynomial lies between 1 / 2000 and 6
  pub p_least : den p ≤ num p * 2000
  p_least =
      let q = val r ⊠ inner (val r) in
      cancel (num p) (den p) q.top q.bot q.good (under_double 12 q (val p) (lit≤ tt) p_rel.near.ge) (low (num r) (den r) (inner (val r)).top (inner (val r)).bot r_lo (inner_least (val r)))
    where
      low : (n d t b : ℕ) → d ≤ n * 1000 → b ≤ t → d * b ≤ n * t * 1000
      low n d t b h k = omega (arith, mul-le-mul h k)

      cancel : (n d t b : ℕ) → 0 < b → t * d ≤ 2 * (n * b) → b ≤ t * 1000 → d ≤ n * 2000
      cancel n d t b B h k = le_of_mul-le-mul_right {k = b} (omega (arith, mul-le-mul_right d k)) B

  pub p_most : num p ≤ 6 * den p
  p_most = let q = val r ⊠ inner (val r) in cancel (num p) (den p) q.top q.bot q.good (under_double 12 (val p) q (lit≤ tt) p_rel.near.le) (part_most (val r) r_one)
    where
      cancel : (n d t b : ℕ) → 0 < b → n * b ≤ 2 * (t * d) → t * 1 ≤ 3 * b → n ≤ 6 * d
      cancel n d t b B h k = le_of_mul-le-mul_right {k = b} (omega (arith, mul-le-mul_right d k)) B

  tp_rel : Rel 13 (mul binary64 t (polynomial_of r)) (val t ⊠ (val r ⊠ inner (val r)))
  tp_rel =
      rel_mul 0 12 t (polynomial_of r) (val t) (val r ⊠ inner (val r)) (rel_exact t entry.pos) p_rel (lit≤ tt)
      (ample_of (val t ⊠ (val r ⊠ inner (val r))) (low (num t) (den t) (num r * (inner (val r)).top) (den r * (inner (val r)).bot) entry.low (part (num r) (den r) (inner (val r)).top (inner (val r)).bot r_lo (inner_least (val r))))
      (high (num t) (den t) (num r * (inner (val r)).top) (den r * (inner (val r)).bot) entry.high (part_most (val r) r_one)))
    where
      part : (n d t b : ℕ) → d ≤ n * 1000 → b ≤ t → d * b ≤ n * t * 1000
      part n d t b h k = omega (arith, mul-le-mul h k)

      low : (n d p q : ℕ) → d ≤ n → q ≤ p * 1000 → d * q ≤ n * p * 1024
      low n d p q h k = omega (arith, mul-le-mul h k)

      high : (n d p q : ℕ) → n ≤ 2 * d → p * 1 ≤ 3 * q → n * p ≤ d * q * 1024
      high n d p q h k = omega (arith, mul-le-mul h k)

  -- and its product with the entry is 12 at most
  pub tp_most : num (mul binary64 t p) ≤ 12 * den (mul binary64 t p)
  tp_most =
      let q = val t ⊠ (val r ⊠ inner (val r)) in
      let v = mul binary64 t p in
      cancel (num v) (den v) q.top q.bot q.good (under_double 13 (val v) q (lit≤ tt) tp_rel.near.le) (high (num t) (den t) (num r * (inner (val r)).top) (den r * (inner (val r)).bot) entry.high (part_most (val r) r_one))
    where
      high : (n d p q : ℕ) → n ≤ 2 * d → p * 1 ≤ 3 * q → n * p ≤ 6 * (d * q)
      high n d p q h k = omega (arith, mul-le-mul h k)

      cancel : (n d t b : ℕ) → 0 < b → n * b ≤ 2 * (t * d) → t ≤ 6 * b → n ≤ 12 * d
      cancel n d t b B h k = le_of_mul-le-mul_right {k = b} (omega (arith, mul-le-mul_right d k)) B

  sum_rel : Rel 14 (add binary64 t (mul binary64 t (polynomial_of r))) (val t ⊞ val t ⊠ (val r ⊠ inner (val r)))
  sum_rel =
      rel_add 13 t (mul binary64 t (polynomial_of r)) (val t) (val t ⊠ (val r ⊠ inner (val r))) (rel_weaken 0 13 t (val t) (lit≤ tt) (rel_exact t entry.pos)) tp_rel (lit≤ tt)
      (ample_of (val t ⊞ val t ⊠ (val r ⊠ inner (val r))) (low (num t) (den t) (num r * (inner (val r)).top) (den r * (inner (val r)).bot) entry.low)
      (high (num t) (den t) (num r * (inner (val r)).top) (den r * (inner (val r)).bot) entry.high (part_most (val r) r_one)))
    where
      low : (n d p q : ℕ) → d ≤ n → d * (d * q) ≤ (n * (d * q) + n * p * d) * 1024
      low n d p q h = omega (arith, mul-le-mul_right (d * q) h)

      high : (n d p q : ℕ) → n ≤ 2 * d → p * 1 ≤ 3 * q → n * (d * q) + n * p * d ≤ d * (d * q) * 1024
      high n d p q h k = omega (arith, mul-le-mul_right (d * q) h, mul-le-mul_right d (mul-le-mul h k))

  -- t + t * p is t * (1 + p)
  factored : Close 0 (val t ⊞ val t ⊠ (val r ⊠ inner (val r))) (val t ⊠ (one_over 0 ⊞ val r ⊠ inner (val r)))
  unfolding fact
  factored = close_same (val t ⊞ val t ⊠ (val r ⊠ inner (val r))) (val t ⊠ (one_over 0 ⊞ val r ⊠ inner (val r))) (turn (num t) (den t) (num r * (inner (val r)).top) (den r * (inner (val r)).bot))
    where
      turn : (n d p q : ℕ) → (n * (d * q) + n * p * d) * (d * (1 * q)) ≡ n * (1 * q + p * 1) * (d * (d * q))
      turn n d p q = omega arith

  series_rel : Rel 14 (add binary64 t (mul binary64 t (polynomial_of r))) (val t ⊠ S 6 (val r))
  series_rel =
      rel_trans 14 0 (add binary64 t (mul binary64 t (polynomial_of r))) (val t ⊞ val t ⊠ (val r ⊠ inner (val r))) (val t ⊠ S 6 (val r)) sum_rel
      (close_trans 0 0 (val t ⊞ val t ⊠ (val r ⊠ inner (val r))) (val t ⊠ (one_over 0 ⊞ val r ⊠ inner (val r))) (val t ⊠ S 6 (val r)) factored
      (close_mul 0 0 (val t) (val t) (one_over 0 ⊞ val r ⊠ inner (val r)) (S 6 (val r)) (close_refl (val t)) (whole_is (val r))))

  module _ (n : ℕ) (n-lo : least_power ≤ n) (n-hi : n ≤ most_power) where
    product_ample : Ample (val t ⊠ S 6 (val r) ⊠ scale n)
    product_ample = record {
      least = low (num t) (den t) (sum_top 6 (num r) (den r)) (sum_bot 6 (den r)) (2 ^ n) (2 ^ zero_power) (2 ^ 1021) entry.low (S-one 6 (val r)) (le_trans {m = 2 ^ least_power * 2 ^ 1021} (lit≤ tt) (mul-le-mul_right (2 ^ 1021) (pow_mono n-lo)));
      most = high (num t) (den t) (sum_top 6 (num r) (den r)) (sum_bot 6 (den r)) (2 ^ n) (2 ^ zero_power) (2 ^ 1022) entry.high series_three (le_trans (mul-le-mul_left 6 (pow_mono n-hi)) (lit≤ tt));
    }
      where
        series_three : sum_top 6 (num r) (den r) * 1 ≤ 3 * sum_bot 6 (den r)
        series_three = ⊑_trans (S 6 (val r)) (record { top = den r + 2 * num r; bot = den r; good = den_pos r }) (nat 3) (tiny_above (val r) r_one 6) (omega (arith, r_one))

        low : (n d E B N P M : ℕ) → d ≤ n → B ≤ E → P ≤ N * M → d * B * P ≤ n * E * N * M
        low n d E B N P M h k l = le_trans (mul-le-mul (mul-le-mul h k) l) (le_of_eq (sym (native.Mathlib.Nat.mul_assoc (n * E) N M)))

        high : (n d E B N P M : ℕ) → n ≤ 2 * d → E * 1 ≤ 3 * B → 6 * N ≤ P * M → n * E * N ≤ d * B * P * M
        high n d E B N P M h k l =
            let a : n * E * N ≤ 2 * d * (3 * B) * N = mul-le-mul_right N (mul-le-mul h (le_trans (le_of_eq (sym (mul-one E))) k)) in
            le_trans a (le_trans (le_of_eq (e₁ d B N)) (le_trans (mul-le-mul_left (d * B) l) (le_of_eq (sym (native.Mathlib.Nat.mul_assoc (d * B) P M)))))
          where
            e₁ : (d B N : ℕ) → 2 * d * (3 * B) * N ≡ d * B * (6 * N)
            e₁ d B N = omega arith

    pub answer_rel : Rel 15 (mul binary64 (add binary64 t (mul binary64 t (polynomial_of r))) (scale_of n)) (val t ⊠ S 6 (val r) ⊠ scale n)
    answer_rel =
        rel_mul 14 0 (add binary64 t (mul binary64 t (polynomial_of r))) (scale_of n) (val t ⊠ S 6 (val r)) (scale n) series_rel
        (power_rel n (omega arith) (omega arith)) (lit≤ tt) product_ample
