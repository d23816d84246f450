-- From |t| ≤ b and |t ln x| ≤ b to bounds of |t| d and |t y|, where the double y is within d of ln x. Assumes nothing.
use Rattle.std.specs.Prelude.{◌≡◌, ◌⊎◌, true, false, ℕ, ◌+◌, ◌-◌, ◌*◌, ◌^◌, ◌≤◌, ◌<◌, T, Float}
use Rattle.std.proofs.Common.{ap, inl, inr, le_of_lt, mul-le-mul_right, mul-le-mul_left, le_of_mul-le-mul_right, arith}
use Rattle.std.specs.Float.{nan, inf, fin}
use Rattle.std.specs.Float.Ieee.Scale.{finite}
use Rattle.std.specs.Float.Ieee.Positive.{num, den}
use Rattle.numerics.specs.Frac.{Frac, ◌⊑◌, ◌⊠◌, nat, less}
use Rattle.numerics.specs.Fraction.{part, val}
use Rattle.numerics.specs.Exponential.{Signed, signed, size, LnWithin, LnReaches, LnNear}
use Rattle.numerics.proofs.Logarithm.{rest, reach_plus, reach_minus}
use Rattle.numerics.proofs.ExpBoundLaws.{split}
use Rattle.numerics.specs.Power.{ProductWithin}
use Rattle.numerics.proofs.PowerExponents.{magnitude}

-- ---- |ln x| reaches |y| - d
reach : (d x : Frac) (y : Float) → T (finite y) → d ⊑ val y → LnWithin d x (signed y) → LnReaches (less (val y) d) x
reach d x nan f h w = absurd f
reach d x (inf s) f h w = absurd f
reach d x (fin false m e) f h w = reach_plus d x (val (fin false m e)) h w
reach d x (fin true m e) f h w = reach_minus d x (val (fin true m e)) h w

-- ---- |t| of a double
pub size_is : (t : Float) → ((size (signed t)).top ≡ num t) × ((size (signed t)).bot ≡ den t)
size_is nan = (omega arith, omega arith)
size_is (inf s) = (omega arith, omega arith)
size_is (fin false m e) = (omega arith, omega arith)
size_is (fin true m e) = (omega arith, omega arith)

pub magnitude_is : (t : Float) → ((magnitude (signed t)).top ≡ num t) × ((magnitude (signed t)).bot ≡ den t)
magnitude_is nan = (omega arith, omega arith)
magnitude_is (inf s) = (omega arith, omega arith)
magnitude_is (fin false m e) = (omega arith, omega arith)
magnitude_is (fin true m e) = (omega arith, omega arith)

module _ (b : ℕ) (x : Frac) (t : Float) (far : ProductWithin x (signed t) (nat b)) where
  far_at : (c : Frac) → LnReaches c x → num t * c.top * 1 ≤ b * (den t * c.bot)
  far_at c h = let k = far c h in rw ((size_is t).0, (size_is t).1) at k

  -- |t| d ≤ b / 2 ^ p
  pub spread : (p : ℕ) (r : Signed) → size (signed t) ⊑ nat b → (n : LnNear (part p) x r) → num t * n.d.top * 2 ^ p ≤ b * (den t * n.d.bot)
  spread p r few n = go n.small
    where
      few' : num t * 1 ≤ b * den t
      few' = rw ((size_is t).0, (size_is t).1) at few

      one : (T B D E P : ℕ) → T * 1 ≤ b * B → D * P ≤ 1 * E → T * D * P ≤ b * (B * E)
      one T B D E P h k = omega (arith, mul-le-mul_right E h, mul-le-mul_left T k)

      more : (T B D E P u v : ℕ) → 0 < v → T * u * 1 ≤ b * (B * v) → D * (P * v) ≤ 1 * u * E → T * D * P ≤ b * (B * E)
      more T B D E P u v Q h k = le_of_mul-le-mul_right {k = v} (omega (arith, mul-le-mul_right E h, mul-le-mul_left T k)) Q

      go : (n.d ⊑ part p) ⊎ ((c : Frac) × (LnReaches c x × (n.d ⊑ part p ⊠ c))) → num t * n.d.top * 2 ^ p ≤ b * (den t * n.d.bot)
      go (inl h) = one (num t) (den t) n.d.top n.d.bot (2 ^ p) few' h
      go (inr (c, (k, h))) = more (num t) (den t) n.d.top n.d.bot (2 ^ p) c.top c.bot c.good (far_at c k) h

  -- |t y| ≤ b + 1
  pub product_few : (d : Frac) (y : Float) → T (finite y) → LnWithin d x (signed y) → num t * d.top ≤ den t * d.bot → num t * num y ≤ (b + 1) * (den t * den y)
  product_few d y f w few = split (d.top * den y) (num y * d.bot) (num t * num y ≤ (b + 1) * (den t * den y))
      (λ h. near (num t) (den t) (num y) (den y) d.top d.bot (num y * d.bot - d.top * den y) d.good few (rest (val y) d h) (far_at (less (val y) d) (reach d x y f h w)))
      (λ h. tiny (num t) (den t) (num y) (den y) d.top d.bot d.good few (le_of_lt h))
    where
      near : (T B Y C D E r : ℕ) → 0 < E → T * D ≤ B * E → D * C + r ≡ Y * E → T * r * 1 ≤ b * (B * (C * E)) → T * Y ≤ (b + 1) * (B * C)
      near T B Y C D E r P h e k = le_of_mul-le-mul_right {k = E} (omega (arith, mul-le-mul_right C h, ap (λ (z : ℕ). T * z) e, k)) P

      tiny : (T B Y C D E : ℕ) → 0 < E → T * D ≤ B * E → Y * E ≤ D * C → T * Y ≤ (b + 1) * (B * C)
      tiny T B Y C D E P h k = le_of_mul-le-mul_right {k = E} (omega (arith, mul-le-mul_right C h, mul-le-mul_left T k)) P
