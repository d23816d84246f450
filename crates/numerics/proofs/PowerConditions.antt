-- |t ln x| ≤ b (`ProductWithin`): what it says, and ways to show it.
--   product_within_power   it holds just where e ^ -b ≤ x ^ t ≤ e ^ b, for t ≥ 0 with nothing taken off and for t ≤ 0 with nothing added, as every double is
--   product_within_of      from |ln x| ≤ c and |t| c ≤ b
--   product_within_by      from 1 / h ≤ x ≤ h, h below e ^ c, and |t| c ≤ b
-- Assumes nothing.
use Rattle.std.specs.Prelude.{◌≡◌, ◌↔◌, ◌⊎◌, ℕ, ◌+◌, ◌-◌, ◌*◌, ◌≤◌, ◌<◌}
use Rattle.std.proofs.Common.{sym, ap, subst, inl, inr, le_of_lt, mul-pos, mul-le-mul_right, mul-le-mul_left, le_of_mul-le-mul_right, add-sub_of_le, arith}
use Rattle.numerics.specs.Frac.{Frac, ◌⊑◌, ◌⊠◌, nat, ⊑_refl, ⊑_trans}
use Rattle.numerics.specs.Law.{mono-⊠}
use Rattle.numerics.specs.Exponential.{Signed, plus_of, minus_of, size, AboveExp, BelowExp, AboveLn, BelowLn, LnReaches}
use Rattle.numerics.proofs.ExpBounds.{below_above_exp}
use Rattle.numerics.proofs.ExpBoundLaws.{split, exp_zero}
use Rattle.numerics.proofs.ExpBoundSums.{◌≼◌, sum_of}
use Rattle.numerics.proofs.ExponentialRoom.{exp_above_pos}
use Rattle.numerics.proofs.ExponentialLaws.{exp_above_arg, exp_below_arg, exp_below_sum}
use Rattle.numerics.specs.Exp.{inv}
use Rattle.numerics.proofs.Equivalence.{below_nonneg, above_neg}
use Rattle.numerics.proofs.Logarithm.{reaches_minus}
use Rattle.numerics.specs.Power.{product_bound, AbovePower, BelowPower, ProductWithin}
use Rattle.numerics.proofs.ExponentOrder.{exp_order}
use Rattle.numerics.proofs.LnBounds.{ln_order}
use Rattle.numerics.proofs.PowerExponents.{product}
use Rattle.numerics.proofs.PowerSigns as signs

-- ln x ≤ -c from `LnReaches`
above_of_reaches : (c x : Frac) → ((q : Frac) → BelowExp (plus_of c) q → q ⊠ x ⊑ nat 1) → AboveLn x (minus_of c)
above_of_reaches c x f q a =
    let Q = exp_above_pos (minus_of c) q a in
    let h : inv q Q ⊠ x ⊑ nat 1 = f (inv q Q) ((below_nonneg c (inv q Q)).1 ((above_neg c q Q).0 a)) in
    omega (arith, h)

-- ln x ≤ c and -c ≤ ln x
pub reached : (x c : Frac) → AboveLn x (plus_of c) → BelowLn x (minus_of c) → (d : Frac) → LnReaches d x → d ⊑ c
reached x c a b d (inl f) = omega (arith, ln_order x (plus_of d) (plus_of c) f a)
reached x c a b d (inr f) = omega (arith, ln_order x (minus_of c) (minus_of d) b (above_of_reaches d x f))

pub product_within_of : (x : Frac) (t : Signed) (b c : Frac) → AboveLn x (plus_of c) → BelowLn x (minus_of c) → size t ⊠ c ⊑ b → ProductWithin x t b
product_within_of x t b c a k h d r = ⊑_trans (size t ⊠ d) (size t ⊠ c) b (mono-⊠ (size t) (size t) d c (⊑_refl (size t)) (reached x c a k d r)) h

-- 1 / h ≤ x ≤ h for an h below e ^ c is enough for |ln x| ≤ c
pub product_within_by : (x : Frac) (t : Signed) (b c h : Frac) → 0 < h.top → BelowExp (plus_of c) h → x ⊑ h → nat 1 ⊑ x ⊠ h → size t ⊠ c ⊑ b → ProductWithin x t b
product_within_by x t b c h H e o k =
    product_within_of x t b c (λ q a. ⊑_trans x h q o (below_above_exp (plus_of c) h q e a)) (λ q a. clear q (⊑_trans (q ⊠ h) (nat 1) (x ⊠ h) (under q a) k))
  where
    under : (q : Frac) → BelowExp (minus_of c) q → q ⊠ h ⊑ nat 1
    under q a =
        let z = sum_of (minus_of c) (plus_of c) in
        below_above_exp z (q ⊠ h) (nat 1) (exp_below_sum (minus_of c) (plus_of c) q h a e) (exp_zero z (omega arith)).0

    clear : (q : Frac) → q ⊠ h ⊑ x ⊠ h → q ⊑ x
    clear q l = le_of_mul-le-mul_right {k = h.top * h.bot} (omega (arith, l)) (mul-pos H h.good)

-- ---- e ^ -b ≤ x ^ t ≤ e ^ b
pub record PowerBetween (x : Frac) (t : Signed) (b : Frac) : Type 0 where
  pub low : (p q : Frac) → BelowExp (minus_of b) p → AbovePower x t q → p ⊑ q
  pub high : (p q : Frac) → BelowPower x t p → AboveExp (plus_of b) q → p ⊑ q

-- |k| where k ≥ 0, and where k ≤ 0
abbrev over : Signed → Frac
over k = record { top = k.plus - k.minus; bot = k.bot; good = k.good }

abbrev under : Signed → Frac
under k = record { top = k.minus - k.plus; bot = k.bot; good = k.good }

over_reached : (x : Frac) (k : Signed) → k.minus ≤ k.plus → BelowLn x k → LnReaches (over k) x
over_reached x k h a = inl (λ q e. a q (exp_below_arg (plus_of (over k)) k q (fits k.plus k.minus k.bot h) e))
  where
    fits : (p m b : ℕ) → m ≤ p → (p - m) * b + m * b ≤ p * b + 0 * b
    fits p m b h = omega (arith, ap (λ (z : ℕ). z * b) (add-sub_of_le h))

under_reached : (x : Frac) (l : Signed) → l.plus ≤ l.minus → AboveLn x l → LnReaches (under l) x
under_reached x l h a = reaches_minus (under l) x (λ q e. a q (exp_above_arg l (minus_of (under l)) q (fits l.plus l.minus l.bot h) e))
  where
    fits : (p m b : ℕ) → p ≤ m → p * b + (m - p) * b ≤ 0 * b + m * b
    fits p m b h = omega (arith, ap (λ (z : ℕ). z * b) (add-sub_of_le h))

size_nonneg : (p m : ℕ) → m ≡ 0 → p - m + (m - p) ≡ p
size_nonneg p m z = rw z (omega arith)

size_nonpos : (p m : ℕ) → p ≡ 0 → p - m + (m - p) ≡ m
size_nonpos p m z = rw z (omega arith)

-- u - v ≤ W / (P b), from that where v ≤ u
unsplit : (P u v W b : ℕ) → (v ≤ u → P * (u - v) * b ≤ W) → P * u * b ≤ W + P * v * b
unsplit P u v W b f = split v u (P * u * b ≤ W + P * v * b) (λ h. omega (arith, f h, ap (λ (z : ℕ). P * z * b) (add-sub_of_le h))) (λ h. omega (arith, mul-le-mul_left P (mul-le-mul_right b (le_of_lt h))))

plus_size : (P N u W b z : ℕ) → N ≡ 0 → (P * u + N * 0) * b + 0 * z ≤ W + (P * 0 + N * u) * b → P * u * b ≤ W
plus_size P N u W b z e h = omega (arith, rw e at h)

module _ (x : Frac) (X : 0 < x.top) (t : Signed) (b : Frac) where
  nonneg_within : t.minus ≡ 0 → PowerBetween x t b → ProductWithin x t b
  nonneg_within z w c r = subst (λ (s : ℕ). s * c.top * b.bot ≤ b.top * (t.bot * c.bot)) (sym (size_nonneg t.plus t.minus z)) (plus_size t.plus t.minus c.top (b.top * (t.bot * c.bot)) b.bot (t.bot * c.bot) z (go r))
    where
      go : LnReaches c x → (t.plus * c.top + t.minus * 0) * b.bot + 0 * (t.bot * c.bot) ≤ b.top * (t.bot * c.bot) + (t.plus * 0 + t.minus * c.top) * b.bot
      go (inl f) = exp_order (product t (plus_of c)) (plus_of b) (λ p q e a. w.high p q ((signs.below_nonneg x X t p z).1 (plus_of c, (f, e))) a)
      go (inr f) = omega (arith, exp_order (minus_of b) (product t (minus_of c)) (λ p q e a. w.low p q e ((signs.above_nonneg x X t q z).1 (minus_of c, (above_of_reaches c x f, a)))))

  nonpos_within : t.plus ≡ 0 → PowerBetween x t b → ProductWithin x t b
  nonpos_within z w c r = subst (λ (s : ℕ). s * c.top * b.bot ≤ b.top * (t.bot * c.bot)) (sym (size_nonpos t.plus t.minus z)) (plus_size t.minus t.plus c.top (b.top * (t.bot * c.bot)) b.bot (t.bot * c.bot) z (go r))
    where
      go : LnReaches c x → (t.minus * c.top + t.plus * 0) * b.bot + 0 * (t.bot * c.bot) ≤ b.top * (t.bot * c.bot) + (t.minus * 0 + t.plus * c.top) * b.bot
      go (inl f) = omega (arith, exp_order (minus_of b) (product t (plus_of c)) (λ p q e a. w.low p q e ((signs.above_nonpos x X t q z).1 (plus_of c, (f, a)))))
      go (inr f) = omega (arith, exp_order (product t (minus_of c)) (plus_of b) (λ p q e a. w.high p q ((signs.below_nonpos x X t p z).1 (minus_of c, (above_of_reaches c x f, e))) a))

  -- with |t| = P
  reached_order : (P : ℕ) → (size t).top ≡ P → ProductWithin x t b → (c : Frac) → LnReaches c x → P * c.top * b.bot ≤ b.top * (t.bot * c.bot)
  reached_order P e far c r = subst (λ (s : ℕ). s * c.top * b.bot ≤ b.top * (t.bot * c.bot)) e (far c r)

  above_order : (P : ℕ) → (size t).top ≡ P → ProductWithin x t b → (k : Signed) → BelowLn x k → P * k.plus * b.bot ≤ b.top * (t.bot * k.bot) + P * k.minus * b.bot
  above_order P e far k a = unsplit P k.plus k.minus (b.top * (t.bot * k.bot)) b.bot (λ h. reached_order P e far (over k) (over_reached x k h a))

  below_order : (P : ℕ) → (size t).top ≡ P → ProductWithin x t b → (l : Signed) → AboveLn x l → P * l.minus * b.bot ≤ b.top * (t.bot * l.bot) + P * l.plus * b.bot
  below_order P e far l a = unsplit P l.minus l.plus (b.top * (t.bot * l.bot)) b.bot (λ h. reached_order P e far (under l) (under_reached x l h a))

  -- t⁺ k - t⁻ l ≤ b and -b ≤ t⁺ l - t⁻ k, for k at most and l at least ln x
  most : (t.minus ≡ 0) ⊎ (t.plus ≡ 0) → ProductWithin x t b → (l k : Signed) → AboveLn x l → BelowLn x k → product_bound t k l ≼ plus_of b
  most (inl z) far l k a c = rw z (omega (arith, mul-le-mul_right l.bot (above_order t.plus (size_nonneg t.plus t.minus z) far k c)))
  most (inr z) far l k a c = rw z (omega (arith, mul-le-mul_right k.bot (below_order t.minus (size_nonpos t.plus t.minus z) far l a)))

  least : (t.minus ≡ 0) ⊎ (t.plus ≡ 0) → ProductWithin x t b → (l k : Signed) → AboveLn x l → BelowLn x k → minus_of b ≼ product_bound t l k
  least (inl z) far l k a c = rw z (omega (arith, mul-le-mul_right k.bot (below_order t.plus (size_nonneg t.plus t.minus z) far l a)))
  least (inr z) far l k a c = rw z (omega (arith, mul-le-mul_right l.bot (above_order t.minus (size_nonpos t.plus t.minus z) far k c)))

  between : (t.minus ≡ 0) ⊎ (t.plus ≡ 0) → ProductWithin x t b → PowerBetween x t b
  between s far = record { low = low; high = high }
    where
      low : (p q : Frac) → BelowExp (minus_of b) p → AbovePower x t q → p ⊑ q
      low p q e (l, (k, (a, (c, f)))) = below_above_exp (product_bound t l k) p q (exp_below_arg (minus_of b) (product_bound t l k) p (least s far l k a c) e) f

      high : (p q : Frac) → BelowPower x t p → AboveExp (plus_of b) q → p ⊑ q
      high p q (l, (k, (a, (c, f)))) e = below_above_exp (plus_of b) p q (exp_below_arg (product_bound t k l) (plus_of b) p (most s far l k a c) f) e

  pub product_within_power : (t.minus ≡ 0) ⊎ (t.plus ≡ 0) → ProductWithin x t b ↔ PowerBetween x t b
  product_within_power (inl z) = (between (inl z), nonneg_within z)
  product_within_power (inr z) = (between (inr z), nonpos_within z)
