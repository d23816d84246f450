-- Ways to show that r is within ε × max(1, |ln x|) of ln x (`LnNear`).
--   ln_near_of           r = y ≥ 0, from Le y x d, Below (y + d) x and d ≤ ε c, where c ≤ 1 or Above c x
--   ln_near_of_inv       r = -y, from the same of 1 / x
--   ln_weaken, ln_near_weaken   a wider distance
--   ln_near_plus         r = y ≥ 0, known to be within d ≤ δ × max(1, y), where δ (1 + ε) ≤ ε
--   ln_near_minus        the same for r = -y
-- Assumes nothing.
use Rattle.std.specs.Prelude.{◌≡◌, ◌⊎◌, ℕ, ◌+◌, ◌-◌, ◌*◌, ◌≤◌, ◌<◌, max}
use Rattle.std.proofs.Common.{ap, inl, inr, mul-le-mul_right, le_of_mul-le-mul_right, add-sub_of_le, eq-zero-or-pos, arith}
use Rattle.numerics.specs.Frac.{Frac, ◌⊑◌, ◌⊞◌, ◌⊠◌, nat, ⊑_refl, ⊑_trans}
use Rattle.numerics.specs.Series.{Above, Below}
use Rattle.numerics.specs.Law.{mono-⊠}
use Rattle.numerics.specs.Rel.{less}
use Rattle.numerics.specs.Exp.{Le, inv}
use Rattle.numerics.specs.Exponential.{Signed, plus_of, minus_of, raised, lowered, BelowExp, AboveLn, LnWithin, LnReaches, LnNear}
use Rattle.numerics.proofs.ExpBounds.{at_least, least_most}
use Rattle.numerics.proofs.ExpBoundLaws.{split}
use Rattle.numerics.proofs.ExponentialLaws.{exp_above_arg, exp_below_arg}
use Rattle.numerics.proofs.Distance.{most_plus, ln_within_of, ln_within_neg}
use Rattle.numerics.proofs.Equivalence.{below_nonneg, above_neg}

pub ln_weaken : (d d' x : Frac) (r : Signed) → d ⊑ d' → LnWithin d x r → LnWithin d' x r
ln_weaken d d' x r h w = record {
  low = λ q k. w.low q (exp_below_arg (lowered r d') (lowered r d) q (down r.plus r.minus r.bot d.top d.bot d'.top d'.bot h) k);
  high = λ q k. w.high q (exp_above_arg (raised r d) (raised r d') q (up r.plus r.minus r.bot d.top d.bot d'.top d'.bot h) k);
}
  where
    down : (p m b t s t' s' : ℕ) → t * s' ≤ t' * s → p * s' * (b * s) + (m * s + t * b) * (b * s') ≤ p * s * (b * s') + (m * s' + t' * b) * (b * s)
    down p m b t s t' s' h = omega (arith, mul-le-mul_right (b * b) h)

    up : (p m b t s t' s' : ℕ) → t * s' ≤ t' * s → (p * s + t * b) * (b * s') + m * s' * (b * s) ≤ (p * s' + t' * b) * (b * s) + m * s * (b * s')
    up p m b t s t' s' h = omega (arith, mul-le-mul_right (b * b) h)

pub ln_near_weaken : (ε η x : Frac) (r : Signed) → ε ⊑ η → LnNear ε x r → LnNear η x r
ln_near_weaken ε η x r h n = record { d = n.d; within = n.within; small = go n.small }
  where
    go : (n.d ⊑ ε) ⊎ ((c : Frac) × (LnReaches c x × (n.d ⊑ ε ⊠ c))) → (n.d ⊑ η) ⊎ ((c : Frac) × (LnReaches c x × (n.d ⊑ η ⊠ c)))
    go (inl k) = inl (⊑_trans n.d ε η k h)
    go (inr (c, k)) = inr (c, (k.0, ⊑_trans n.d (ε ⊠ c) (η ⊠ c) k.1 (mono-⊠ ε η c c h (⊑_refl c))))

-- max(1, y)
abbrev pub from_one : Frac → Frac
from_one y = record { top = max y.top y.bot; bot = y.bot; good = y.good }

-- ---- |ln x| is at least y - d
pub rest : (y d : Frac) → d ⊑ y → d.top * y.bot + (y.top * d.bot - d.top * y.bot) ≡ y.top * d.bot
rest y d h = add-sub_of_le h

pub reach_plus : (d x y : Frac) → d ⊑ y → LnWithin d x (plus_of y) → LnReaches (less y d) x
reach_plus d x y h w = inl (λ q k. w.low q (exp_below_arg (plus_of (less y d)) (lowered (plus_of y) d) q (fits (y.top * d.bot) (d.top * y.bot) (y.top * d.bot - d.top * y.bot) (y.bot * d.bot) d.bot (rest y d h)) k))
  where
    fits : (Y D r B e : ℕ) → D + r ≡ Y → r * B + (0 * e + D) * B ≤ Y * B + 0 * B
    fits Y D r B e h = omega (arith, ap (λ (z : ℕ). z * B) h)

-- ln x ≤ -c, in the form of `LnReaches`
pub reaches_minus : (c x : Frac) → AboveLn x (minus_of c) → LnReaches c x
reaches_minus c x a = inr (λ q k. go q k (eq-zero-or-pos q.top))
  where
    go : (q : Frac) → BelowExp (plus_of c) q → (q.top ≡ 0) ⊎ (0 < q.top) → q ⊠ x ⊑ nat 1
    go q k (inl z) = rw z (omega arith)
    go q k (inr Q) = let l : x ⊑ inv q Q = a (inv q Q) ((above_neg c (inv q Q) q.good).1 ((below_nonneg c q).0 k)) in omega (arith, l)

pub reach_minus : (d x y : Frac) → d ⊑ y → LnWithin d x (minus_of y) → LnReaches (less y d) x
reach_minus d x y h w = reaches_minus (less y d) x (λ q k. w.high q (exp_above_arg (raised (minus_of y) d) (minus_of (less y d)) q (fits (y.top * d.bot) (d.top * y.bot) (y.top * d.bot - d.top * y.bot) (y.bot * d.bot) d.bot (rest y d h)) k))
  where
    fits : (Y D r B e : ℕ) → D + r ≡ Y → (0 * e + D) * B + r * B ≤ 0 * B + Y * B
    fits Y D r B e h = omega (arith, ap (λ (z : ℕ). z * B) h)

-- ---- from a distance measured by y
module _ (ε δ d x y : Frac) (few : δ ⊠ (nat 1 ⊞ ε) ⊑ ε) (one : δ ⊑ nat 1) (near : d ⊑ δ ⊠ from_one y) where
  tight : (t s e f : ℕ) → 0 < f → t * (1 * f + e * 1) * f ≤ e * (s * (1 * f)) → t * (f + e) ≤ e * s
  tight t s e f F h = le_of_mul-le-mul_right {k = f} (omega (arith, h)) F

  -- where y ≤ 1
  low_y : y.top ≤ y.bot → d ⊑ ε
  low_y h =
      clear d.top d.bot δ.top δ.bot ε.top ε.bot y.bot y.good δ.good (tight δ.top δ.bot ε.top ε.bot ε.good few)
      (rw (largest y.top y.bot h) at near)
    where
      largest : (t b : ℕ) → t ≤ b → max t b ≡ b
      largest t b h = omega arith

      clear : (D E t s e f b : ℕ) → 0 < b → 0 < s → t * (f + e) ≤ e * s → D * (s * b) ≤ t * b * E → D * f ≤ e * E
      clear D E t s e f b B S k h =
          le_of_mul-le-mul_right {k = s} (le_of_mul-le-mul_right {k = b} (omega (arith, mul-le-mul_right f h, mul-le-mul_right (b * E) k)) B) S

  -- where 1 < y
  high_y : y.bot < y.top → (d ⊑ y) × (d ⊑ ε ⊠ less y d)
  high_y h =
      let n : d.top * (δ.bot * y.bot) ≤ δ.top * y.top * d.bot = rw (largest y.top y.bot h) at near in
      let l : d ⊑ y = inside d.top d.bot δ.top δ.bot y.top y.bot δ.good one n in
      (l, last d.top d.bot δ.top δ.bot ε.top ε.bot y.top y.bot (y.top * d.bot - d.top * y.bot) δ.good (tight δ.top δ.bot ε.top ε.bot ε.good few) n (rest y d l))
    where
      largest : (t b : ℕ) → b < t → max t b ≡ t
      largest t b h = omega arith

      inside : (D E t s Y b : ℕ) → 0 < s → t * 1 ≤ 1 * s → D * (s * b) ≤ t * Y * E → D * b ≤ Y * E
      inside D E t s Y b S o n = le_of_mul-le-mul_right {k = s} (omega (arith, n, mul-le-mul_right (Y * E) o)) S

      last : (D E t s e f Y b r : ℕ) → 0 < s → t * (f + e) ≤ e * s → D * (s * b) ≤ t * Y * E → D * b + r ≡ Y * E → D * (f * (b * E)) ≤ e * r * E
      last D E t s e f Y b r S k n w =
          let g : D * b * (f + e) ≤ e * (Y * E) = le_of_mul-le-mul_right {k = s} (omega (arith, mul-le-mul_right (f + e) n, mul-le-mul_right (Y * E) k)) S in
          omega (arith, mul-le-mul_right E g, ap (λ (z : ℕ). e * z * E) w)

  pub ln_near_plus : LnWithin d x (plus_of y) → LnNear ε x (plus_of y)
  ln_near_plus w = split y.top y.bot (LnNear ε x (plus_of y)) (λ h. record { d = d; within = w; small = inl (low_y h) })
      (λ h. let k = high_y h in record { d = d; within = w; small = inr (less y d, (reach_plus d x y k.0 w, k.1)) })

  pub ln_near_minus : LnWithin d x (minus_of y) → LnNear ε x (minus_of y)
  ln_near_minus w = split y.top y.bot (LnNear ε x (minus_of y)) (λ h. record { d = d; within = w; small = inl (low_y h) })
      (λ h. let k = high_y h in record { d = d; within = w; small = inr (less y d, (reach_minus d x y k.0 w, k.1)) })

-- ---- from a distance ε c, where c ≤ 1 or c ≤ |ln x| by an upper bound of e ^ c
pub reaches_of_above : (c x : Frac) → Above c x → LnReaches c x
reaches_of_above c x h = inl (λ q k. least_most (plus_of c) q x (at_least (plus_of c) q k) (most_plus c x h))

pub reaches_of_above_inv : (c x : Frac) (P : 0 < x.top) → Above c (inv x P) → LnReaches c x
reaches_of_above_inv c x P h = inr (λ q k. turn q (least_most (plus_of c) q (inv x P) (at_least (plus_of c) q k) (most_plus c (inv x P) h)))
  where
    turn : (q : Frac) → q ⊑ inv x P → q ⊠ x ⊑ nat 1
    turn q l = omega (arith, l)

modest : (ε c d : Frac) → d ⊑ ε ⊠ c → c ⊑ nat 1 → d ⊑ ε
modest ε c d h k = ⊑_trans d (ε ⊠ c) ε h (⊑_trans (ε ⊠ c) (ε ⊠ nat 1) ε (mono-⊠ ε ε c (nat 1) (⊑_refl ε) k) (omega arith))

-- e ^ y ≤ x e ^ d and x ≤ e ^ (y + d)
pub ln_near_of : (ε c d x y : Frac) → Le y x d → Below (y ⊞ d) x → d ⊑ ε ⊠ c → (c ⊑ nat 1) ⊎ Above c x → LnNear ε x (plus_of y)
ln_near_of ε c d x y a b h (inl k) = record { d = d; within = ln_within_of d x y a b; small = inl (modest ε c d h k) }
ln_near_of ε c d x y a b h (inr k) = record { d = d; within = ln_within_of d x y a b; small = inr (c, (reaches_of_above c x k, h)) }

-- the same of 1 / x
pub ln_near_of_inv : (ε c d x y : Frac) (P : 0 < x.top) → Le y (inv x P) d → Below (y ⊞ d) (inv x P) → d ⊑ ε ⊠ c → (c ⊑ nat 1) ⊎ Above c (inv x P) → LnNear ε x (minus_of y)
ln_near_of_inv ε c d x y P a b h (inl k) = record { d = d; within = ln_within_neg d x y P a b; small = inl (modest ε c d h k) }
ln_near_of_inv ε c d x y P a b h (inr k) = record { d = d; within = ln_within_neg d x y P a b; small = inr (c, (reaches_of_above_inv c x P k, h)) }
