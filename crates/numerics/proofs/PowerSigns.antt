-- The exact power by the sign of t, and by the value of t alone.
--   above_nonneg, below_nonneg   for t ≥ 0, q lies above x ^ t just where it lies above e ^ (t l) for an l that is at least ln x; below for one that is at most
--   above_nonpos, below_nonpos   for t ≤ 0 with the two changed over
--   power_value                  where t = t' in value, nothing below x ^ t exceeds anything above x ^ t'
-- Assumes nothing.
use Rattle.std.specs.Prelude.{◌≡◌, ◌↔◌, ℕ, ◌+◌, ◌*◌, ◌≤◌, ◌<◌}
use Rattle.std.proofs.Common.{ap, le_refl, arith}
use Rattle.numerics.specs.Frac.{Frac, ◌⊑◌, nat}
use Rattle.numerics.specs.Exponential.{Signed, raised, AboveExp, BelowExp, AboveLn, BelowLn}
use Rattle.numerics.proofs.ExpBounds.{below_above_exp}
use Rattle.numerics.proofs.ExponentialLaws.{exp_above_arg, exp_below_arg}
use Rattle.numerics.specs.Power.{product_bound, AbovePower, BelowPower}
use Rattle.numerics.proofs.ExponentOrder.{≼_trans}
use Rattle.numerics.proofs.LnBounds.{ln_order, ln_bounds, greater}
use Rattle.numerics.proofs.PowerExponents.{product, product_bound_mono, product_nonneg, product_nonpos, product_one}

-- ---- by the sign of t
module _ (x : Frac) (X : 0 < x.top) (t : Signed) (q : Frac) where
  bounds : (k : Signed) × (BelowLn x k × AboveLn x (raised (raised k (nat 1)) (nat 1)))
  bounds = ln_bounds x (nat 1) X (le_refl 1)

  pub above_nonneg : t.minus ≡ 0 → AbovePower x t q ↔ ((l : Signed) × (AboveLn x l × AboveExp (product t l) q))
  above_nonneg z = (
    λ w. (w.0, (w.1.1.0, exp_above_arg (product t w.0) (product_bound t w.0 w.1.0) q (product_nonneg t w.0 w.1.0 z).le w.1.1.1.1)),
    λ w. (w.0, (bounds.0, (w.1.0, (bounds.1.0, exp_above_arg (product_bound t w.0 bounds.0) (product t w.0) q (product_nonneg t w.0 bounds.0 z).ge w.1.1)))),
  )

  pub below_nonneg : t.minus ≡ 0 → BelowPower x t q ↔ ((k : Signed) × (BelowLn x k × BelowExp (product t k) q))
  below_nonneg z = (
    λ w. (w.1.0, (w.1.1.1.0, exp_below_arg (product_bound t w.1.0 w.0) (product t w.1.0) q (product_nonneg t w.1.0 w.0 z).ge w.1.1.1.1)),
    λ w. let l = raised (raised bounds.0 (nat 1)) (nat 1) in (l, (w.0, (bounds.1.1, (w.1.0, exp_below_arg (product t w.0) (product_bound t w.0 l) q (product_nonneg t w.0 l z).le w.1.1)))),
  )

  pub above_nonpos : t.plus ≡ 0 → AbovePower x t q ↔ ((k : Signed) × (BelowLn x k × AboveExp (product t k) q))
  above_nonpos z = (
    λ w. (w.1.0, (w.1.1.1.0, exp_above_arg (product t w.1.0) (product_bound t w.0 w.1.0) q (product_nonpos t w.0 w.1.0 z).le w.1.1.1.1)),
    λ w. let l = raised (raised bounds.0 (nat 1)) (nat 1) in (l, (w.0, (bounds.1.1, (w.1.0, exp_above_arg (product_bound t l w.0) (product t w.0) q (product_nonpos t l w.0 z).ge w.1.1)))),
  )

  pub below_nonpos : t.plus ≡ 0 → BelowPower x t q ↔ ((l : Signed) × (AboveLn x l × BelowExp (product t l) q))
  below_nonpos z = (
    λ w. (w.0, (w.1.1.0, exp_below_arg (product_bound t w.1.0 w.0) (product t w.0) q (product_nonpos t w.1.0 w.0 z).ge w.1.1.1.1)),
    λ w. (w.0, (bounds.0, (w.1.0, (bounds.1.0, exp_below_arg (product t w.0) (product_bound t bounds.0 w.0) q (product_nonpos t bounds.0 w.0 z).le w.1.1)))),
  )

-- ---- by the value of t
value_order : (P M B P' M' B' a b c : ℕ) → P * B' + M' * B ≡ P' * B + M * B' → (P * a + M * b) * (B' * c) + (P' * b + M' * a) * (B * c) ≤ (P' * a + M' * b) * (B * c) + (P * b + M * a) * (B' * c)
value_order P M B P' M' B' a b c e = omega (arith, ap (λ (z : ℕ). z * (a * c)) e, ap (λ (z : ℕ). z * (b * c)) e)

pub power_value : (x : Frac) (t t' : Signed) → t.plus * t'.bot + t'.minus * t.bot ≡ t'.plus * t.bot + t.minus * t'.bot → (p q : Frac) → BelowPower x t p → AbovePower x t' q → p ⊑ q
power_value x t t' e p q (l, (k, (a, (b, c)))) (l', (k', (a', (b', c')))) =
    let m = greater x k k' b b' in
    let n = m.0 in
    let low = product_bound t k l in
    let high = product_bound t' l' k' in
    below_above_exp high p q
    (exp_below_arg low high p
    (≼_trans low (product_bound t n n) high (product_bound_mono t k l n n m.1.1.0 (ln_order x n l m.1.0 a))
    (≼_trans (product_bound t n n) (product t n) high (product_one t n).ge
    (≼_trans (product t n) (product t' n) high (value_order t.plus t.minus t.bot t'.plus t'.minus t'.bot n.plus n.minus n.bot e)
    (≼_trans (product t' n) (product_bound t' n n) high (product_one t' n).le (product_bound_mono t' n n l' k' (ln_order x n l' m.1.0 a') m.1.1.1))))) c) c'
