-- The two products of the exponential's reduction: with m = u - zero_steps exactly, m * hi is exact, and m * lo is rounded once. Assumes nothing.
use mathlib.Core.Path.{◌≡◌, refl, sym, ap, ◌∙◌, subst}
use mathlib.Core.Logic.{◌⊎◌, inl, inr}
use Prim.Native.Nat.{ℕ, zero, suc, ◌+◌, ◌-◌, ◌*◌, ◌^◌, ◌≤◌, ◌<◌}
use native.Mathlib.Nat.{le_refl, le_trans, le_of_eq, lt_of_lt_of_le, mul_assoc, mul-le-mul_right, mul-le-mul_left, le_of_mul-le-mul_right, mul-lt-mul_of_pos_right, zero-mul, zero-lt-suc}
use native.Mathlib.Omega.{arith}
use mathlib.Core.Bool.{Bool, true, false, not}
use lib.IntN.{negsuc}
use lib.Dec.{T, leb, leb→le, nleb→lt, lit≤}
use lib.Pow.{pow_pos}
use lib.Ieee.{Float, nan, inf, fin, binary64, round, sub, mul, neg}
use lib.Ieee.Exact.{HasValue, round_exact}
use lib.Ieee.Scale.{finite}
use lib.Ieee.Positive.{num, den, den_pos}
use Rattle.numerics.specs.Frac.{Frac, big, small, Under, Close}
use Rattle.numerics.specs.Round.{Normal}
use Rattle.numerics.specs.Nonneg.{nonneg, nonneg_finite, round_rel0}
use Rattle.numerics.specs.EitherSign.{up_part, down_part, plus, minus, round_neg, plus_neg, minus_neg, den_neg, finite_neg, parts_of_value, finite_of_value}
use Rattle.numerics.specs.Exactly.{Differs, sub_whole, mul_whole}
use Rattle.elementary_exp.proofs.ExpSteps.{crude}
use Rattle.elementary_exp.proofs.ExpConstants.{far_steps, fewest_steps, hi, high_top, lo, low_top, most_steps, start, zero_steps}

-- ---- u - zero_steps
pub record Counted (u : ℕ) (m : Float) : Type 0 where
  pub s : Bool
  pub k : ℕ
  pub value : HasValue m s k 1
  pub plus_is : up_part s k ≡ u - zero_steps
  pub minus_is : down_part s k ≡ zero_steps - u
  pub few : k ≤ far_steps

pub counted : (u : ℕ) (w : Float) → fewest_steps ≤ u → u ≤ most_steps → HasValue w false (2 ^ 52 + u) 1 → Counted u (sub binary64 w start)
counted u w l h v = go (leb zero_steps u) (leb→le zero_steps u) (nleb→lt zero_steps u)
  where
    both : Differs (sub binary64 w start) (2 ^ 52 + u) (2 ^ 52 + zero_steps)
    both = sub_whole w start (2 ^ 52 + u) (2 ^ 52 + zero_steps) (omega arith) (lit≤ tt) v (refl, refl)

    go : (b : Bool) → (T b → zero_steps ≤ u) → (T (not b) → u < zero_steps) → Counted u (sub binary64 w start)
    go true p q =
        let g = p tt in
        let e : 2 ^ 52 + u - (2 ^ 52 + zero_steps) ≡ u - zero_steps = omega arith in
        record {
          s = false;
          k = u - zero_steps;
          value = subst (λ (z : ℕ). HasValue (sub binary64 w start) false z 1) e (both.0 (omega arith));
          plus_is = refl;
          minus_is = omega arith;
          few = omega arith;
        }
    go false p q =
        let g = q tt in
        let e : 2 ^ 52 + zero_steps - (2 ^ 52 + u) ≡ zero_steps - u = omega arith in
        record {
          s = true;
          k = zero_steps - u;
          value = subst (λ (z : ℕ). HasValue (sub binary64 w start) true z 1) e (both.1 (omega arith));
          plus_is = omega arith;
          minus_is = refl;
          few = omega arith;
        }

-- ---- m * hi
pub record High (u : ℕ) (a : Float) : Type 0 where
  pub number : T (finite a)
  pub plus_is : plus a * 2 ^ 40 ≡ (u - zero_steps) * high_top * den a
  pub minus_is : minus a * 2 ^ 40 ≡ (zero_steps - u) * high_top * den a

up_mul : (s : Bool) (k n : ℕ) → up_part s (k * n) ≡ up_part s k * n
up_mul false k n = refl
up_mul true k n = sym (zero-mul n)

down_mul : (s : Bool) (k n : ℕ) → down_part s (k * n) ≡ down_part s k * n
down_mul false k n = sym (zero-mul n)
down_mul true k n = refl

pub high_of : (u : ℕ) (m : Float) → Counted u m → High u (mul binary64 m hi)
high_of u m c =
    let q = c.k * high_top in
    let l : q < 2 ^ 53 = omega (arith, c.few) in
    let a = mul binary64 m hi in
    let v : HasValue a c.s q (2 ^ 40) =
    subst (λ (x : Float). HasValue x c.s q (2 ^ 40)) (sym (mul_whole binary64 m c.s c.k high_top (negsuc 39) c.value))
    (round_exact binary64 c.s q (2 ^ 40) q 1034 (lit≤ tt) l (lt_of_lt_of_le (mul-lt-mul_of_pos_right l (pow_pos 1034)) (lit≤ tt)) (sym (mul_assoc q (2 ^ 1034) (2 ^ 40)))) in
    let p = parts_of_value a c.s q (2 ^ 40) v in
    record {
      number = finite_of_value a c.s q (2 ^ 40) v;
      plus_is = p.0 ∙ ap (λ (z : ℕ). z * den a) (up_mul c.s c.k high_top ∙ ap (λ (z : ℕ). z * high_top) c.plus_is);
      minus_is = p.1 ∙ ap (λ (z : ℕ). z * den a) (down_mul c.s c.k high_top ∙ ap (λ (z : ℕ). z * high_top) c.minus_is);
    }

-- ---- m * lo
abbrev pub over_den : ℕ → Float → Frac
over_den n x = record { top = n; bot = den x; good = den_pos x }

abbrev pub low_exact : ℕ → Frac
low_exact k = record { top = k * low_top; bot = 2 ^ 92; good = pow_pos 92 }

pub record LowAt (i j : ℕ) (b : Float) : Type 0 where
  pub number : T (finite b)
  pub plus_near : Close 1 (over_den (plus b) b) (low_exact i)
  pub minus_near : Close 1 (over_den (minus b) b) (low_exact j)

plus_nonneg : (v : Float) → T (nonneg v) → plus v ≡ num v
plus_nonneg nan p = refl
plus_nonneg (inf s) p = refl
plus_nonneg (fin false m e) p = refl
plus_nonneg (fin true m e) p = absurd p

minus_nonneg : (v : Float) → T (nonneg v) → minus v ≡ 0
minus_nonneg nan p = refl
minus_nonneg (inf s) p = refl
minus_nonneg (fin false m e) p = refl
minus_nonneg (fin true m e) p = absurd p

low_fine : (k : ℕ) → k ≤ far_steps → (k * low_top ≡ 0) ⊎ Normal (low_exact k)
low_fine zero h = inl refl
low_fine (suc k) h = inr (record {
  least = le_trans {m = 1 * (low_top * 2 ^ 1022)} (lit≤ tt) (le_trans (mul-le-mul_right (low_top * 2 ^ 1022) (zero-lt-suc k)) (le_of_eq (sym (mul_assoc (suc k) low_top (2 ^ 1022)))));
  most = le_trans (mul-le-mul_right low_top h) (lit≤ tt);
})

low_plus : (k : ℕ) → k ≤ far_steps → LowAt k 0 (round binary64 false (k * low_top) (2 ^ 92))
low_plus k h =
    let v = round binary64 false (k * low_top) (2 ^ 92) in
    let r = round_rel0 (low_exact k) (low_fine k h) in
    record {
      number = nonneg_finite v r.sign;
      plus_near = record { le = rw (plus_nonneg v r.sign) r.near.le; ge = rw (plus_nonneg v r.sign) r.near.ge };
      minus_near = record { le = rw (minus_nonneg v r.sign) (none (2 ^ 92) (small ^ 1) (0 * low_top * den v * big ^ 1)); ge = rw (minus_nonneg v r.sign) (none' low_top (den v) (small ^ 1) (0 * 2 ^ 92 * big ^ 1)) };
    }
  where
    none : (a b r : ℕ) → 0 * a * b ≤ r
    none a b r = omega arith

    none' : (c a b r : ℕ) → 0 * c * a * b ≤ r
    none' c a b r = rw (zero-mul c) (none a b r)

low_minus : (k : ℕ) (v : Float) → LowAt k 0 v → LowAt 0 k (neg v)
low_minus k v r = record {
  number = finite_neg v r.number;
  plus_near = record { le = rw (plus_neg v, den_neg v) r.minus_near.le; ge = rw (plus_neg v, den_neg v) r.minus_near.ge };
  minus_near = record { le = rw (minus_neg v, den_neg v) r.plus_near.le; ge = rw (minus_neg v, den_neg v) r.plus_near.ge };
}

pub low_of : (u : ℕ) (m : Float) → Counted u m → LowAt (u - zero_steps) (zero_steps - u) (mul binary64 m lo)
low_of u m c =
    subst (λ (i : ℕ). LowAt i (zero_steps - u) (mul binary64 m lo)) c.plus_is
    (subst (λ (j : ℕ). LowAt (up_part c.s c.k) j (mul binary64 m lo)) c.minus_is
    (subst (λ (b : Float). LowAt (up_part c.s c.k) (down_part c.s c.k) b) (sym (mul_whole binary64 m c.s c.k low_top (negsuc 91) c.value))
    (go c.s)))
  where
    go : (s : Bool) → LowAt (up_part s c.k) (down_part s c.k) (round binary64 s (c.k * low_top) (2 ^ 92))
    go false = low_plus c.k c.few
    go true =
        subst (λ (b : Float). LowAt 0 c.k b) (sym (round_neg binary64 (c.k * low_top) (2 ^ 92)))
        (low_minus c.k (round binary64 false (c.k * low_top) (2 ^ 92)) (low_plus c.k c.few))

-- each part of m * lo is below one part in a million
pub low_small : (n : ℕ) (b : Float) (k : ℕ) → k ≤ far_steps → Under 1 (over_den n b) (low_exact k) → n * 1000000 ≤ den b
low_small n b k h l =
    let d = crude (over_den n b) (low_exact k) l in
    le_of_mul-le-mul_right {k = 2 ^ 92 * 10000000}
    (le_trans (le_of_eq (turn n (2 ^ 92))) (le_trans (mul-le-mul_right 1000000 d) (le_trans (le_of_eq (turn' k (den b))) (le_trans (mul-le-mul_left (den b) (le_trans (mul-le-mul_right (low_top * 10000001 * 1000000) h) (lit≤ tt))) (le_refl (den b * (2 ^ 92 * 10000000)))))))
    (lit≤ tt)
  where
    turn : (n p : ℕ) → n * 1000000 * (p * 10000000) ≡ n * p * 10000000 * 1000000
    turn n p = omega arith

    turn' : (k d : ℕ) → k * low_top * d * 10000001 * 1000000 ≡ d * (k * (low_top * 10000001 * 1000000))
    turn' k d = omega arith
