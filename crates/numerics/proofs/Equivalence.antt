-- The convenient forms are the series with its tail's bound, at either sign. For a ≥ 0, `Below a q` (q is at most a partial sum) and `Above a q` (q is at least each of them):
--   below_nonneg   q lies below e ^ a just where Below a q
--   above_nonneg   each q' over q lies above e ^ a just where Above a q
--   above_neg      q lies above e ^ -a just where Below a (1 / q)
--   below_neg      each q' under q lies below e ^ -a just where Above a (1 / q)
-- The second and the fourth speak of q' because `Above` allows q = e ^ a, which a strict bound does not reach. Assumes nothing.
use Rattle.std.specs.Prelude.{◌≡◌, ◌↔◌, ◌⊎◌}
use Rattle.std.proofs.Common.{sym, subst, inl, inr}
use Prim.Native.Nat.{ℕ, zero, suc, ◌+◌, ◌*◌, ◌^◌, ◌≤◌, ◌<◌}
use native.Mathlib.Nat.{lt_of_lt_of_le, mul-pos, mul-le-mul_right, le_of_mul-le-mul_right, one-le-pow, zero-add, eq-zero-or-pos}
use native.Mathlib.Omega.{arith}
use Rattle.numerics.specs.Frac.{Frac, ◌⊑◌, ◌⊏◌, ◌⊞◌, ◌⊠◌, nat, ⊑_refl, ⊑_trans}
use Rattle.numerics.specs.Series.{sum_top, sum_bot, sum_bot_pos, S, Above, Below}
use Rattle.numerics.specs.Law.{zero_sum}
use Rattle.numerics.specs.Limit.{archimedes}
use Rattle.numerics.specs.Tail.{S-one}
use Rattle.numerics.specs.Exp.{inv}
use Rattle.numerics.specs.Exponential.{Signed, plus_of, minus_of, size, AboveExp, BelowExp}
use Rattle.numerics.proofs.ExpBounds.{AtMost, AtLeast, at_most, at_least, least_most, of, up_below}
use Rattle.numerics.proofs.ExpBoundLaws.{above_of_most, below_of_least, least_some, exp_zero}
use Rattle.numerics.proofs.ExponentialRoom.{room_above, exp_above_more, exp_below_less, one_below}
use Rattle.numerics.proofs.Distance.{zero_one, most_plus, least_plus, most_minus, least_minus}

-- ---- an order that holds up to every larger or smaller fraction holds
from_larger : (s q : Frac) → ((r : Frac) → q ⊏ r → s ⊑ r) → s ⊑ q
from_larger s q f = archimedes (s.top * q.bot) (q.top * s.bot) (q.bot * s.bot) each
  where
    less : (t b n : ℕ) → 0 < b → t * (b * suc n) < (t * suc n + 1 * b) * b
    less t b n B = omega (arith, mul-pos B B)

    turn : (st sb qt qb n : ℕ) → st * (qb * suc n) ≤ (qt * suc n + 1 * qb) * sb → suc n * (st * qb) ≤ suc n * (qt * sb) + qb * sb
    turn st sb qt qb n h = omega (arith, h)

    each : (N : ℕ) → N * (s.top * q.bot) ≤ N * (q.top * s.bot) + q.bot * s.bot
    each zero = omega arith
    each (suc n) = turn s.top s.bot q.top q.bot n (f (q ⊞ record { top = 1; bot = suc n; good = native.Mathlib.Nat.zero-lt-suc n }) (less q.top q.bot n q.good))

from_smaller : (q s : Frac) → 0 < q.top → ((r : Frac) → r ⊏ q → r ⊑ s) → q ⊑ s
from_smaller q s Q f = archimedes (q.top * s.bot) (s.top * q.bot) (s.top * q.bot) each
  where
    less : (t b n : ℕ) → 0 < t → 0 < b → t * n * b < t * (b * suc n)
    less t b n T B = omega (arith, mul-pos T B)

    turn : (st sb qt qb n : ℕ) → qt * n * sb ≤ st * (qb * suc n) → n * (qt * sb) ≤ n * (st * qb) + st * qb
    turn st sb qt qb n h = omega (arith, h)

    each : (N : ℕ) → N * (q.top * s.bot) ≤ N * (s.top * q.bot) + s.top * q.bot
    each n = turn s.top s.bot q.top q.bot n (f (record { top = q.top * n; bot = q.bot * suc n; good = mul-pos q.good (native.Mathlib.Nat.zero-lt-suc n) }) (less q.top q.bot n Q q.good))

-- ---- x = a
module _ (a q : Frac) where
  -- where a = 0 a partial sum is 1
  sum_zero : (n : ℕ) → a.top ≡ 0 → q ⊑ S n a → q ⊑ nat 1
  sum_zero n z h = clear q.top q.bot (sum_bot n a.bot) (sum_bot_pos n a.bot a.good) (rw (z, zero_sum n a.bot) at h)
    where
      clear : (t b B : ℕ) → 0 < B → t * B ≤ B * b → t * 1 ≤ 1 * b
      clear t b B P h = le_of_mul-le-mul_right {k = B} (omega (arith, h)) P

  -- else the next is larger
  sum_grows : (n : ℕ) → 0 < a.top → q ⊑ S n a → q ⊏ S (suc n) a
  unfolding sum_top sum_bot
  sum_grows n P h = clear q.top q.bot (sum_top n a.top a.bot) (sum_bot n a.bot) (a.bot * suc n) (a.top ^ suc n) (mul-pos (one-le-pow (suc n) a.top P) q.good) h
    where
      clear : (t b s B k w : ℕ) → 0 < w * b → t * B ≤ s * b → t * (B * k) < (s * k + w) * b
      clear t b s B k w P h = omega (arith, P, mul-le-mul_right k h)

  pub below_nonneg : BelowExp (plus_of a) q ↔ Below a q
  below_nonneg = (there, back)
    where
      there : BelowExp (plus_of a) q → Below a q
      there h =
          let k : BelowExp (of (0 + a.top) 0 a.bot a.good) q = subst (λ (z : ℕ). BelowExp (of z 0 a.bot a.good) q) (sym (zero-add a.top)) h in
          (k.0, up_below 0 a.top a.bot a.good q k.0 k.1.1)

      back : Below a q → BelowExp (plus_of a) q
      back (n, h) = go (eq-zero-or-pos a.top)
        where
          go : (a.top ≡ 0) ⊎ (0 < a.top) → BelowExp (plus_of a) q
          go (inl z) = exp_below_less (plus_of a) (nat 1) q (sum_zero n z h) (exp_zero (plus_of a) z).1
          go (inr P) = below_of_least (plus_of a) (S (suc n) a) q (least_plus a (S (suc n) a) (suc n, ⊑_refl (S (suc n) a))) (sum_grows n P h)

  pub above_nonneg : Above a q ↔ ((r : Frac) → q ⊏ r → AboveExp (plus_of a) r)
  above_nonneg = (λ h r l. above_of_most (plus_of a) q r (most_plus a q h) l, λ f m. from_larger (S m a) q (λ r l. reach r m (at_most (plus_of a) r (f r l))))
    where
      reach : (r : Frac) (m : ℕ) → AtMost (plus_of a) r → S m a ⊑ r
      reach r m k = ⊑_trans (S m a) (r ⊠ nat 1) r (k (nat 1) (λ j. zero_one j a.bot a.good (nat 1) (⊑_refl (nat 1))) m) (omega arith)

-- ---- x = -a
most_pos : (x : Signed) (p : Frac) → AtMost x p → 0 < p.top
most_pos x p k = let f = least_some x in go f.0 f.1.0 (least_most x f.0 p f.1.1 k) (eq-zero-or-pos p.top)
  where
    go : (f : Frac) → 0 < f.top → f ⊑ p → (p.top ≡ 0) ⊎ (0 < p.top) → 0 < p.top
    go f P h (inr k) = k
    go f P h (inl z) = absurd (none (f.top * p.bot) f.bot (mul-pos P p.good) (rw z at h))
      where
        none : (a b : ℕ) → 0 < a → a ≤ 0 * b → ⊥
        none a b p h = omega arith

module _ (a q : Frac) (Q : 0 < q.top) where
  flat : a.top ≡ 0 → (size (minus_of a)).top ≡ 0
  flat z = omega arith

  pub above_neg : AboveExp (minus_of a) q ↔ Below a (inv q Q)
  above_neg = (there, back)
    where
      turned : (p : Frac) (P : 0 < p.top) → AtMost (minus_of a) p → AtLeast (plus_of a) (inv p P)
      turned p P k A o m =
          let h : nat 1 ⊑ p ⊠ A = unfold sum_top sum_bot in k A o 0 in
          rw (zero_sum m a.bot) (clear p.top p.bot A.top A.bot (sum_bot m a.bot) h)
        where
          clear : (t b A A' B : ℕ) → 1 * (b * A') ≤ t * A * 1 → b * B * A' ≤ A * (t * B)
          clear t b A A' B h = omega (arith, mul-le-mul_right B h)

      there : AboveExp (minus_of a) q → Below a (inv q Q)
      there h = go (eq-zero-or-pos a.top)
        where
          go : (a.top ≡ 0) ⊎ (0 < a.top) → Below a (inv q Q)
          go (inl z) = (0, unfold sum_top sum_bot in one_first (one_below (minus_of a) q (flat z) h))
            where
              one_first : nat 1 ⊑ q → q.bot * 1 ≤ 1 * q.top
              one_first k = omega (arith, k)
          go (inr P) =
              let r = room_above (minus_of a) q (whole P) h in
              let p = r.0 in
              let w = most_pos (minus_of a) p r.1.1 in
              (below_nonneg a (inv q Q)).0 (below_of_least (plus_of a) (inv p w) (inv q Q) (turned p w r.1.1) (flip p r.1.0))
            where
              whole : 0 < a.top → 0 < (size (minus_of a)).top
              whole P = omega arith

              flip : (p : Frac) → p ⊏ q → q.bot * p.top < p.bot * q.top
              flip p h = omega (arith, h)

      back : Below a (inv q Q) → AboveExp (minus_of a) q
      back (n, h) = go (eq-zero-or-pos a.top)
        where
          go : (a.top ≡ 0) ⊎ (0 < a.top) → AboveExp (minus_of a) q
          go (inl z) = exp_above_more (minus_of a) (nat 1) q (first (sum_zero a (inv q Q) n z h)) (exp_zero (minus_of a) (sym z)).0
            where
              first : inv q Q ⊑ nat 1 → nat 1 ⊑ q
              first k = omega (arith, k)
          go (inr P) =
              let l = S (suc n) a in
              let w : 0 < l.top = lt_of_lt_of_le l.good (S-one (suc n) a) in
              above_of_most (minus_of a) (inv l w) q (most_minus a (inv l w) l (suc n, ⊑_refl l) (omega arith)) (flip l (sum_grows a (inv q Q) n P h))
            where
              flip : (l : Frac) → q.bot * l.bot < l.top * q.top → l.bot * q.bot < q.top * l.top
              flip l h = omega (arith, h)

  pub below_neg : Above a (inv q Q) ↔ ((r : Frac) → r ⊏ q → BelowExp (minus_of a) r)
  below_neg = (λ h r l. below_of_least (minus_of a) q r (least_minus a (inv q Q) q h (omega arith)) l, λ f m. reach m f)
    where
      reach : (m : ℕ) → ((r : Frac) → r ⊏ q → BelowExp (minus_of a) r) → S m a ⊑ inv q Q
      reach m f =
          let s = S m a in
          let w : 0 < s.top = lt_of_lt_of_le s.good (S-one m a) in
          flip s w (from_smaller q (inv s w) Q (λ r l. turn r s w (at_least (minus_of a) r (f r l) (nat 1) (λ j. zero_one j a.bot a.good (nat 1) (⊑_refl (nat 1))) m)))
        where
          turn : (r s : Frac) (w : 0 < s.top) → r ⊠ s ⊑ nat 1 → r ⊑ inv s w
          turn r s w h = omega (arith, h)

          flip : (s : Frac) (w : 0 < s.top) → q ⊑ inv s w → s ⊑ inv q Q
          flip s w h = omega (arith, h)
