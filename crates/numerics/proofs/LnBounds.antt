-- Bounds of ln x: `AboveLn x l` (l is at least ln x) and `BelowLn x k` (k is at most).
--   above_ln_up            a bound may be loosened
--   ln_order               what is at most ln x is at most what is at least ln x
--   ln_either              l is at most ln x, or l + g is at least
--   ln_bounds              there are a k at most and an l at least ln x with l - k = 2 g, for each g > 0: ln x is enclosed as closely as one likes
--   lesser, greater        of two bounds the nearer one
--   ln_least, ln_most      x ≤ e ^ l and e ^ k ≤ x, in the form of `ExpBounds`
-- Assumes nothing.
use Rattle.std.specs.Prelude.{◌≡◌, ◌⊎◌, ℕ, zero, suc, ◌+◌, ◌*◌, ◌≤◌, ◌<◌}
use Rattle.std.proofs.Common.{sym, subst, inl, inr, le_refl, le_trans, le_of_lt, mul-pos, mul-le-mul_right, mul-le-mul_left, le_of_mul-le-mul_right, zero-add, add-zero, pow-suc, zero-lt-suc, arith}
use Rattle.std.proofs.Math.Nat.{pow-zero}
use Rattle.numerics.specs.Frac.{Frac, ◌⊑◌, ◌⊞◌, ◌⊠◌, nat, ⊑_refl, ⊑_trans, add_mono}
use Rattle.numerics.specs.Series.{sum_top, sum_bot, S}
use Rattle.numerics.specs.Exp.{inv}
use Rattle.numerics.specs.Limit.{archimedes}
use Rattle.numerics.specs.Exponential.{Signed, plus_of, minus_of, raised, AboveLn, BelowLn}
use Rattle.numerics.proofs.ExpBounds.{positives, negatives, AtMost, AtLeast, at_most, at_least, below_above_exp}
use Rattle.numerics.proofs.ExpBoundLaws.{split, squeeze}
use Rattle.numerics.proofs.ExpBoundSums.{◌≼◌}
use Rattle.numerics.proofs.ExponentialLaws.{exp_above_arg, exp_below_arg}
use Rattle.numerics.proofs.Equivalence.{above_neg}
use Rattle.numerics.proofs.ExponentOrder.{exp_enclosed, exp_one_more, exp_below_raised, exp_order}

pub above_ln_up : (x : Frac) (l k : Signed) → l ≼ k → AboveLn x l → AboveLn x k
above_ln_up x l k h a q b = a q (exp_above_arg l k q h b)

-- ---- ln x between its bounds
pub ln_order : (x : Frac) (k l : Signed) → BelowLn x k → AboveLn x l → k ≼ l
ln_order x k l b a = exp_order k l (λ p q c d. ⊑_trans p x q (b p c) (a q d))

pub ln_either : (x : Frac) (l : Signed) (g : Frac) → 0 < g.top → BelowLn x l ⊎ AboveLn x (raised l g)
ln_either x l g G =
    let s = exp_enclosed l g G in
    let p = s.0 in
    let q = s.1.0 in
    let w = p ⊠ (nat 1 ⊞ g) in
    split (x.top * q.bot) (q.top * x.bot) (BelowLn x l ⊎ AboveLn x (raised l g))
    (λ h. inr (λ r a. ⊑_trans x w r (⊑_trans x q w h (le_of_lt s.1.1.1.1)) (below_above_exp (raised l g) w r (exp_below_raised l g p s.1.1.0) a)))
    (λ h. inl (λ r b. ⊑_trans r q x (below_above_exp l r q b s.1.1.1.0) (le_of_lt h)))

-- ---- a walk in steps of g from -1 / x to x
module _ (x g : Frac) (X : 0 < x.top) (G : 0 < g.top) where
  abbrev place : ℕ → Signed
  place n = record { plus = n * g.top * x.top; minus = x.bot * g.bot; bot = g.bot * x.top; good = mul-pos g.good X }

  first : BelowLn x (place 0)
  first q b = go
    where
      a : Frac
      a = inv x X

      go : q ⊑ x
      go = below_above_exp (minus_of a) q x (exp_below_arg (place 0) (minus_of a) q (omega arith) b) ((above_neg a x X).1 (1, unfold sum_top sum_bot in rw (pow-suc x.bot 0, pow-zero x.bot) (omega arith)))

  last : AboveLn x (place ((x.top * x.top + x.bot * x.bot) * g.bot))
  last q a =
      ⊑_trans x (nat 1 ⊞ x) q (omega arith)
      (below_above_exp (plus_of x) (nat 1 ⊞ x) q (exp_one_more x) (exp_above_arg (plus_of x) (place ((x.top * x.top + x.bot * x.bot) * g.bot)) q (far x.top x.bot g.top g.bot G x.good X) a))
    where
      far : (t b u v : ℕ) → 0 < u → 0 < b → 0 < t → t * (v * t) + b * v * b ≤ (t * t + b * b) * v * u * t * b + 0 * (v * t)
      far t b u v U B T = omega (arith, mul-le-mul_left ((t * t + b * b) * v) (mul-pos (mul-pos U T) B))

  walk : (j n : ℕ) → BelowLn x (place n) → AboveLn x (place (n + j)) → (k : Signed) × (BelowLn x k × AboveLn x (raised (raised k g) g))
  walk zero n b a = (place n, (b, above_ln_up x (place (n + 0)) (raised (raised (place n) g) g) (rw (add-zero n) (up (n * g.top * x.top) (x.bot * g.bot) (g.bot * x.top) g.top g.bot)) a))
    where
      up : (p m b t s : ℕ) → p * (b * s * s) + m * s * s * b ≤ ((p * s + t * b) * s + t * (b * s)) * b + m * (b * s * s)
      up p m b t s = omega arith
  walk (suc j) n b a = go (λ c. walk j (suc n) c (subst (λ (z : ℕ). AboveLn x (place z)) (turn n j) a)) (ln_either x (place (suc n)) g G)
    where
      turn : (n j : ℕ) → n + suc j ≡ suc n + j
      turn n j = omega arith

      up : (n t s y m : ℕ) → (suc n * t * y * s + t * (s * y)) * (s * y * s * s) + m * s * s * (s * y * s) ≤ ((n * t * y * s + t * (s * y)) * s + t * (s * y * s)) * (s * y * s) + m * s * (s * y * s * s)
      up n t s y m = omega arith

      go : (BelowLn x (place (suc n)) → (k : Signed) × (BelowLn x k × AboveLn x (raised (raised k g) g))) → BelowLn x (place (suc n)) ⊎ AboveLn x (raised (place (suc n)) g) → (k : Signed) × (BelowLn x k × AboveLn x (raised (raised k g) g))
      go f (inl c) = f c
      go f (inr c) = (place n, (b, above_ln_up x (raised (place (suc n)) g) (raised (raised (place n) g) g) (up n g.top g.bot x.top (x.bot * g.bot)) c))

  pub ln_bounds : (k : Signed) × (BelowLn x k × AboveLn x (raised (raised k g) g))
  ln_bounds = walk ((x.top * x.top + x.bot * x.bot) * g.bot) 0 first (subst (λ (z : ℕ). AboveLn x (place z)) (sym (zero-add ((x.top * x.top + x.bot * x.bot) * g.bot))) last)

-- ---- of two bounds the nearer one
pub lesser : (x : Frac) (l m : Signed) → AboveLn x l → AboveLn x m → (n : Signed) × (AboveLn x n × ((n ≼ l) × (n ≼ m)))
lesser x l m a b =
    split (l.plus * m.bot + m.minus * l.bot) (m.plus * l.bot + l.minus * m.bot) ((n : Signed) × (AboveLn x n × ((n ≼ l) × (n ≼ m))))
    (λ h. (l, (a, (le_refl (l.plus * l.bot + l.minus * l.bot), h)))) (λ h. (m, (b, (le_trans (omega arith) (le_trans (le_of_lt h) (omega arith)), le_refl (m.plus * m.bot + m.minus * m.bot)))))

pub greater : (x : Frac) (l m : Signed) → BelowLn x l → BelowLn x m → (n : Signed) × (BelowLn x n × ((l ≼ n) × (m ≼ n)))
greater x l m a b =
    split (l.plus * m.bot + m.minus * l.bot) (m.plus * l.bot + l.minus * m.bot) ((n : Signed) × (BelowLn x n × ((l ≼ n) × (m ≼ n))))
    (λ h. (m, (b, (h, le_refl (m.plus * m.bot + m.minus * m.bot))))) (λ h. (l, (a, (le_refl (l.plus * l.bot + l.minus * l.bot), le_trans (omega arith) (le_trans (le_of_lt h) (omega arith))))))

-- ---- x ≤ e ^ l and e ^ l ≤ x
pub ln_least : (x : Frac) (l : Signed) → AboveLn x l → AtLeast l x
ln_least x l a A o m = archimedes (x.top * s.top * A.bot) (A.top * (x.bot * s.bot)) (x.bot * s.top * A.bot) each
  where
    s : Frac
    s = S m (negatives l)

    clear : (xt xb pt pb st sb At Ab N : ℕ) → 0 < pb → xt * (pb * N) ≤ (pt * N + 1 * pb) * xb → pt * st * Ab ≤ At * (pb * sb) → N * (xt * st * Ab) ≤ N * (At * (xb * sb)) + xb * st * Ab
    clear xt xb pt pb st sb At Ab N P h k = le_of_mul-le-mul_right {k = pb} (omega (arith, mul-le-mul_right (st * Ab) h, mul-le-mul_right (N * xb) k)) P

    each : (N : ℕ) → N * (x.top * s.top * A.bot) ≤ N * (A.top * (x.bot * s.bot)) + x.bot * s.top * A.bot
    each zero = omega arith
    each (suc n) =
        let z = squeeze l (suc n) (zero-lt-suc n) in
        let p = z.0 in
        let q = z.1.0 in
        clear x.top x.bot p.top p.bot s.top s.bot A.top A.bot (suc n) p.good (⊑_trans x q (p ⊞ record { top = 1; bot = suc n; good = zero-lt-suc n }) (a q z.1.1.1.0) z.1.1.1.1) (at_least l p z.1.1.0 A o m)

pub ln_most : (x : Frac) (k : Signed) → BelowLn x k → AtMost k x
ln_most x k b A o m = archimedes (s.top * (x.bot * A.bot)) (x.top * A.top * s.bot) (x.bot * A.top * s.bot) each
  where
    s : Frac
    s = S m (positives k)

    clear : (xt xb qt qb st sb At Ab N : ℕ) → 0 < qb → qt * (xb * N) ≤ (xt * N + 1 * xb) * qb → st * (qb * Ab) ≤ qt * At * sb → N * (st * (xb * Ab)) ≤ N * (xt * At * sb) + xb * At * sb
    clear xt xb qt qb st sb At Ab N P h k = le_of_mul-le-mul_right {k = qb} (omega (arith, mul-le-mul_right (At * sb) h, mul-le-mul_right (N * xb) k)) P

    each : (N : ℕ) → N * (s.top * (x.bot * A.bot)) ≤ N * (x.top * A.top * s.bot) + x.bot * A.top * s.bot
    each zero = omega arith
    each (suc n) =
        let z = squeeze k (suc n) (zero-lt-suc n) in
        let p = z.0 in
        let q = z.1.0 in
        let i : Frac = record { top = 1; bot = suc n; good = zero-lt-suc n } in
        clear x.top x.bot q.top q.bot s.top s.bot A.top A.bot (suc n) q.good
        (⊑_trans q (p ⊞ i) (x ⊞ i) z.1.1.1.1 (add_mono p x i i (b p z.1.1.0) (⊑_refl i))) (at_most k q z.1.1.1.0 A o m)
