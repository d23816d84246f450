-- ln of every positive finite double x: its pattern's fields are the k and t of x = 2^k (1 + t / 2^52), subnormals included, so `ln_of x` is ln x within the distance of `NearLog`. Assumes nothing.
use mathlib.Core.Path.{◌≡◌, refl, sym, ap, ◌∙◌, subst}
use mathlib.Core.Bool.{Bool, true, false, not}
use mathlib.Core.Logic.{◌⊎◌, inl, inr}
use Prim.Native.Nat.{ℕ, ◌+◌, ◌-◌, ◌*◌, ◌/◌, ◌%◌, ◌^◌, ◌≤◌, ◌<◌}
use native.Mathlib.Nat.{le_of_eq, lt_of_lt_of_le, mod-lt, add-sub_of_le, eq_of_mul-eq-mul_right}
use native.Mathlib.Omega.{arith}
use lib.Count.{count_leading_zeros}
use lib.Dec.{T, ltb, leb, leb→le, nleb→lt, ltb→lt, nltb→le, lit≤}
use lib.Pow.{pow_pos, pow-add}
use lib.Ieee.{Float, nan, inf, fin, binary64, add, neg, to_bits, fits}
use lib.Ieee.Positive.{num, den, positive, value→cross}
use Rattle.numerics.specs.Frac.{Frac, ◌⊞◌}
use Rattle.numerics.specs.Series.{above_more, below_less}
use Rattle.numerics.specs.Exp.{LE-more}
use Rattle.numerics.specs.Round.{val}
use Rattle.numerics.specs.Nonneg.{nonneg}
use Rattle.numerics.specs.Rel.{num_pos}
use Rattle.elementary_ln.specs.Ln.{ln_significand, ln_parts, ln_pattern, ln_of}
use Rattle.elementary_ln.proofs.LnConstants.{zero_exponent, most_exponent}
use Rattle.numerics.specs.Patterns.{highest_bit, positive_tests, pattern_pos, pattern_below, normal_is, subnormal_is}
use Rattle.elementary_distance.proofs.LnDistanceExact.{scaled, flipped}
use Rattle.elementary_distance.proofs.LnDistanceParts.{share, NearLog, from_one, over_one, under_one}
use Rattle.elementary_distance.proofs.LnDistanceSum as sum
use Rattle.elementary_distance.specs.Distances.{ln_bits}

-- 1 / x
abbrev pub reciprocal : (x : Float) → T (positive x) → Frac
reciprocal x p = record { top = den x; bot = num x; good = num_pos x p }

-- y is near ln x, or -y is near ln (1 / x)
abbrev pub NearLn : (x : Float) → T (positive x) → Float → Type 0
NearLn x p y = (T (nonneg y) × NearLog (val x) (val y)) ⊎ (T (nonneg (neg y)) × NearLog (reciprocal x p) (val y))

-- ---- the same number as another fraction
near_same : (x x' y : Frac) → x.top * x'.bot ≡ x'.top * x.bot → NearLog x y → NearLog x' y
near_same x x' y e n =
    let δ = share ln_bits n.size in
    record {
      size = n.size;
      modest = elim n.modest [ inl h ↦ inl h | inr h ↦ inr (above_more n.size x x' (le_of_eq e) h) ];
      near = record { low = LE-more y x x' δ (le_of_eq e) n.near.low; high = below_less (y ⊞ δ) x x' (le_of_eq (sym e)) n.near.high };
    }

neg_val : (v : Float) (x : Frac) → T (nonneg v) → NearLog x (val v) → T (nonneg (neg (neg v))) × NearLog x (val (neg v))
unfolding neg
neg_val nan x s n = absurd s
neg_val (inf t) x s n = absurd s
neg_val (fin true m e) x s n = absurd s
neg_val (fin false m e) x s n = (s, record { size = n.size; modest = n.modest; near = record { low = n.near.low; high = n.near.high } })

-- ---- from the parts
module _ (x : Float) (p : T (positive x)) (e t : ℕ) (e-some : 13 ≤ e) (e-few : e ≤ most_exponent) (t-few : t < 2 ^ 52) where
  from_parts : zero_exponent ≤ e → num x * (2 ^ 52 * 2 ^ 0) ≡ (2 ^ 52 + t) * 2 ^ (e - zero_exponent) * den x → NearLn x p (ln_parts e t)
  from_parts h v =
      let n = e - zero_exponent in
      let few : n ≤ 1074 = omega arith in
      subst (λ (y : Float). NearLn x p y) (sym (sum.parts_from e t (omega arith) e-few h))
      (inl ((sum.sum_rel n t few t-few).sign, near_same (scaled t n 0) (val x) (val (add binary64 (sum.shift n) (ln_significand t))) (sym v) (from_one n t few t-few)))

  below_parts : e < zero_exponent → num x * (2 ^ 52 * 2 ^ (zero_exponent - e)) ≡ (2 ^ 52 + t) * 2 ^ 0 * den x → NearLn x p (ln_parts e t)
  below_parts h v =
      let n = zero_exponent - e in
      let few : n ≤ 1074 = omega arith in
      subst (λ (y : Float). NearLn x p y) (sym (sum.parts_below e t (omega arith) h few)) (go n few v)
    where
      turn : (n d q m : ℕ) → n * q ≡ m * d → q * n ≡ d * m
      turn n d q m h = omega arith

      go : (n : ℕ) (few : n ≤ 1074) → num x * (2 ^ 52 * 2 ^ n) ≡ (2 ^ 52 + t) * 2 ^ 0 * den x → NearLn x p (add binary64 (neg (sum.shift n)) (ln_significand t))
      go n few v =
          let b = sum.shift n in
          let a = ln_significand t in
          choose (leb (num b * den a) (num a * den b)) (leb→le (num b * den a) (num a * den b)) (nleb→lt (num b * den a) (num a * den b))
        where
          choose : (c : Bool) → (T c → num (sum.shift n) * den (ln_significand t) ≤ num (ln_significand t) * den (sum.shift n)) → (T (not c) → num (ln_significand t) * den (sum.shift n) < num (sum.shift n) * den (ln_significand t))
              → NearLn x p (add binary64 (neg (sum.shift n)) (ln_significand t))
          choose true h k =
              subst (λ (y : Float). NearLn x p y) (sym (sum.over_is n t few t-few (h tt)))
              (inl ((sum.over_rel n t few t-few).sign, near_same (scaled t 0 n) (val x) (val (sum.over n t few t-few)) (sym v) (over_one n t few t-few (h tt))))
          choose false h k =
              subst (λ (y : Float). NearLn x p y) (sym (sum.under_is n t few t-few (k tt)))
              (inr (neg_val (sum.under n t few t-few) (reciprocal x p) (sum.under_rel n t few t-few).sign
              (near_same (flipped t 0 n) (reciprocal x p) (val (sum.under n t few t-few)) (turn (num x) (den x) (2 ^ 52 * 2 ^ n) ((2 ^ 52 + t) * 2 ^ 0) v) (under_one n t few t-few (k tt)))))

-- ---- from the pattern
-- n / d = m 2^u / 2^1074 with u = k + 1022, or with u + k = 1022
scale_up : (n d m u k : ℕ) → u ≡ k + 1022 → n * 2 ^ 1074 ≡ m * 2 ^ u * d → n * (2 ^ 52 * 2 ^ 0) ≡ m * 2 ^ k * d
scale_up n d m u k e h = cut n d m (2 ^ k) (2 ^ 52) (2 ^ 1022) (pow_pos 1022) (h ∙ ap (λ (z : ℕ). m * z * d) (ap (λ (z : ℕ). 2 ^ z) e ∙ pow-add 2 k 1022))
  where
    cut : (n d m K a b : ℕ) → 0 < b → n * (a * b) ≡ m * (K * b) * d → n * (a * 1) ≡ m * K * d
    cut n d m K a b B h = eq_of_mul-eq-mul_right b B (n * (a * 1)) (m * K * d) (omega (arith, h))

scale_down : (n d m u k : ℕ) → u + k ≡ 1022 → n * 2 ^ 1074 ≡ m * 2 ^ u * d → n * (2 ^ 52 * 2 ^ k) ≡ m * 2 ^ 0 * d
scale_down n d m u k e h = cut n d m (2 ^ u) (2 ^ k) (2 ^ 52) (pow_pos u) (ap (λ (z : ℕ). n * (2 ^ 52 * z)) (sym (pow-add 2 u k) ∙ ap (λ (z : ℕ). 2 ^ z) e) ∙ h)
  where
    cut : (n d m U K a : ℕ) → 0 < U → n * (a * (U * K)) ≡ m * U * d → n * (a * K) ≡ m * 1 * d
    cut n d m U K a P h = eq_of_mul-eq-mul_right U P (n * (a * K)) (m * 1 * d) (omega (arith, h))

-- n / d = b / 2^1074, and b 2^s is the significand
scale_more : (n d b s k : ℕ) → k ≡ s + 1022 → n * 2 ^ 1074 ≡ b * d → n * (2 ^ 52 * 2 ^ k) ≡ b * 2 ^ s * 2 ^ 0 * d
scale_more n d b s k e h = ap (λ (z : ℕ). n * (2 ^ 52 * z)) (ap (λ (z : ℕ). 2 ^ z) e ∙ pow-add 2 s 1022) ∙ spread n d b (2 ^ s) (2 ^ 52) (2 ^ 1022) h
  where
    spread : (n d b S a c : ℕ) → n * (a * c) ≡ b * d → n * (a * (S * c)) ≡ b * S * 1 * d
    spread n d b S a c h = omega (arith, ap (λ (z : ℕ). z * S) h)

module _ (x : Float) (f : T (fits binary64 x)) (p : T (positive x)) where
  normal : 2 ^ 52 ≤ to_bits binary64 x → NearLn x p (ln_parts (to_bits binary64 x / 2 ^ 52 + 64) (to_bits binary64 x % 2 ^ 52))
  normal l =
      let b = to_bits binary64 x in
      let h = pattern_below x f p in
      let e = b / 2 ^ 52 + 64 in
      go (leb zero_exponent e) (leb→le zero_exponent e) (nleb→lt zero_exponent e) (value→cross x ((2 ^ 52 + b % 2 ^ 52) * 2 ^ (b / 2 ^ 52 - 1)) (2 ^ 1074) (normal_is x f p l))
    where
      go : (c : Bool) → (T c → zero_exponent ≤ to_bits binary64 x / 2 ^ 52 + 64) → (T (not c) → to_bits binary64 x / 2 ^ 52 + 64 < zero_exponent)
          → num x * 2 ^ 1074 ≡ (2 ^ 52 + to_bits binary64 x % 2 ^ 52) * 2 ^ (to_bits binary64 x / 2 ^ 52 - 1) * den x → NearLn x p (ln_parts (to_bits binary64 x / 2 ^ 52 + 64) (to_bits binary64 x % 2 ^ 52))
      go true u w v =
          let b = to_bits binary64 x in
          let h = pattern_below x f p in
          let k = u tt in
          from_parts x p (b / 2 ^ 52 + 64) (b % 2 ^ 52) (omega arith) (omega arith) (mod-lt b (pow_pos 52)) k
          (scale_up (num x) (den x) (2 ^ 52 + b % 2 ^ 52) (b / 2 ^ 52 - 1) (b / 2 ^ 52 + 64 - zero_exponent) (omega arith) v)
      go false u w v =
          let b = to_bits binary64 x in
          let h = pattern_below x f p in
          let k = w tt in
          below_parts x p (b / 2 ^ 52 + 64) (b % 2 ^ 52) (omega arith) (omega arith) (mod-lt b (pow_pos 52)) k
          (scale_down (num x) (den x) (2 ^ 52 + b % 2 ^ 52) (b / 2 ^ 52 - 1) (zero_exponent - (b / 2 ^ 52 + 64)) (omega arith) v)

  subnormal : to_bits binary64 x < 2 ^ 52 → NearLn x p (ln_parts (76 - count_leading_zeros 64 (to_bits binary64 x)) (to_bits binary64 x * 2 ^ (count_leading_zeros 64 (to_bits binary64 x) - 11) - 2 ^ 52))
  subnormal l =
      let b = to_bits binary64 x in
      let z = count_leading_zeros 64 b in
      let h = highest_bit b (pattern_pos x f p) (lt_of_lt_of_le l (lit≤ tt)) in
      let m : 2 ^ 52 + (b * 2 ^ (z - 11) - 2 ^ 52) ≡ b * 2 ^ (z - 11) = add-sub_of_le h.low in
      below_parts x p (76 - z) (b * 2 ^ (z - 11) - 2 ^ 52) (omega arith) (omega arith) (omega arith) (omega arith)
      (scale_more (num x) (den x) b (z - 11) (zero_exponent - (76 - z)) (omega arith) (value→cross x b (2 ^ 1074) (subnormal_is x f p l)) ∙ ap (λ (w : ℕ). w * 2 ^ 0 * den x) (sym m))

  -- the answer of the steps
  pub ln_near : NearLn x p (ln_of x)
  unfolding ln_of ln_pattern
  ln_near =
      let b = to_bits binary64 x in
      let t = positive_tests x p in
      rw (t.0, t.1, t.2) (go (ltb b (2 ^ 52)) refl)
    where
      go : (c : Bool) → ltb (to_bits binary64 x) (2 ^ 52) ≡ c → NearLn x p (ln_pattern (to_bits binary64 x))
      go true e = rw e (subnormal (ltb→lt (to_bits binary64 x) (2 ^ 52) (subst T (sym e) tt)))
      go false e = rw e (normal (nltb→le (to_bits binary64 x) (2 ^ 52) (subst (λ (c : Bool). T (not c)) (sym e) tt)))
