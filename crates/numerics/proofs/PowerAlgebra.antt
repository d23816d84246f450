-- The exact power with neither exponential nor logarithm: for t = (P - M) / B, x ^ P against q ^ B x ^ M (`Algebraic`).
--   power_algebraic           every t
--   power_plus, power_minus   t = a / b and -a / b: x ^ a against q ^ b, and 1 against q ^ b x ^ a
--   power_one, power_two, power_half, power_minus_one   x ^ 1 = x, x ^ 2 = x x, x ^ (1 / 2) squared is x, x ^ -1 is 1 / x
--   within_algebraic          what `PowerWithin` says in these terms
-- Assumes nothing.
use Rattle.std.specs.Prelude.{◌<◌}
use native.Mathlib.Omega.{arith}
use Rattle.std.proofs.Common.{lit≤}
use Rattle.numerics.specs.Frac.{Frac, ◌⊑◌, ◌⊏◌, ◌⊞◌, ◌⊠◌, nat, ⊑_refl, ⊑_trans, ⊑-⊏, ⊏-⊑}
use Rattle.numerics.specs.Law.{power}
use Rattle.numerics.specs.Exponential.{Signed, plus_of, minus_of}
use Rattle.numerics.specs.Power.{AbovePower, BelowPower, PowerWithin}
use Rattle.numerics.proofs.PowerLaws.{power_above, power_below, power_above_back, power_below_back}

-- q lies above x ^ t only where a ≤ b q, and wherever a < b q; below only where b q ≤ a, and wherever b q < a
pub record Algebraic (x : Frac) (t : Signed) (a : Frac) (b : Frac → Frac) : Type 0 where
  pub above : (q : Frac) → AbovePower x t q → a ⊑ b q
  pub below : (q : Frac) → BelowPower x t q → b q ⊑ a
  pub above_back : (q : Frac) → a ⊏ b q → AbovePower x t q
  pub below_back : (q : Frac) → b q ⊏ a → BelowPower x t q

pub power_algebraic : (x : Frac) → 0 < x.top → (t : Signed) → Algebraic x t (power t.plus x) (λ q. power t.bot q ⊠ power t.minus x)
power_algebraic x X t = record { above = power_above x t; below = power_below x t; above_back = power_above_back x X t; below_back = power_below_back x X t }

-- ---- equal fractions
pub record Same (p q : Frac) : Type 0 where
  pub le : p ⊑ q
  pub ge : q ⊑ p

algebraic_same : (x : Frac) (t : Signed) (a a' : Frac) (b b' : Frac → Frac) → Same a a' → ((q : Frac) → Same (b q) (b' q)) → Algebraic x t a b → Algebraic x t a' b'
algebraic_same x t a a' b b' s f w = record {
  above = λ q h. ⊑_trans a' (b q) (b' q) (⊑_trans a' a (b q) s.ge (w.above q h)) (f q).le;
  below = λ q h. ⊑_trans (b' q) (b q) a' (f q).ge (⊑_trans (b q) a a' (w.below q h) s.le);
  above_back = λ q h. w.above_back q (⊑-⊏ a a' (b q) s.le (⊏-⊑ a' (b' q) (b q) h (f q).ge));
  below_back = λ q h. w.below_back q (⊑-⊏ (b q) (b' q) a (f q).le (⊏-⊑ (b' q) a' a h s.ge));
}

itself : (p : Frac) → Same p p
itself p = record { le = ⊑_refl p; ge = ⊑_refl p }

-- ---- t = a / b and t = -a / b
pub power_plus : (x : Frac) → 0 < x.top → (a : Frac) → Algebraic x (plus_of a) (power a.top x) (λ q. power a.bot q)
power_plus x X a = algebraic_same x (plus_of a) (power a.top x) (power a.top x) (λ q. power a.bot q ⊠ power 0 x) (λ q. power a.bot q) (itself (power a.top x)) (λ q. plain (power a.bot q)) (power_algebraic x X (plus_of a))
  where
    plain : (p : Frac) → Same (p ⊠ power 0 x) p
    plain p = record { le = unfold power in omega arith; ge = unfold power in omega arith }

pub power_minus : (x : Frac) → 0 < x.top → (a : Frac) → Algebraic x (minus_of a) (nat 1) (λ q. power a.bot q ⊠ power a.top x)
power_minus x X a = algebraic_same x (minus_of a) (power 0 x) (nat 1) (λ q. power a.bot q ⊠ power a.top x) (λ q. power a.bot q ⊠ power a.top x) one (λ q. itself (power a.bot q ⊠ power a.top x)) (power_algebraic x X (minus_of a))
  where
    one : Same (power 0 x) (nat 1)
    one = record { le = unfold power in omega arith; ge = unfold power in omega arith }

-- ---- the first powers
pub first_power : (p : Frac) → Same (power 1 p) p
unfolding power
first_power p = record { le = omega arith; ge = omega arith }

pub second_power : (p : Frac) → Same (power 2 p) (p ⊠ p)
unfolding power
second_power p = record { le = omega arith; ge = omega arith }

pub power_one : (x : Frac) → 0 < x.top → Algebraic x (plus_of (nat 1)) x (λ q. q)
power_one x X = algebraic_same x (plus_of (nat 1)) (power 1 x) x (λ q. power 1 q) (λ q. q) (first_power x) (λ q. first_power q) (power_plus x X (nat 1))

pub power_two : (x : Frac) → 0 < x.top → Algebraic x (plus_of (nat 2)) (x ⊠ x) (λ q. q)
power_two x X = algebraic_same x (plus_of (nat 2)) (power 2 x) (x ⊠ x) (λ q. power 1 q) (λ q. q) (second_power x) (λ q. first_power q) (power_plus x X (nat 2))

abbrev pub half : Frac
half = record { top = 1; bot = 2; good = lit≤ tt }

pub power_half : (x : Frac) → 0 < x.top → Algebraic x (plus_of half) x (λ q. q ⊠ q)
power_half x X = algebraic_same x (plus_of half) (power 1 x) x (λ q. power 2 q) (λ q. q ⊠ q) (first_power x) (λ q. second_power q) (power_plus x X half)

pub power_minus_one : (x : Frac) → 0 < x.top → Algebraic x (minus_of (nat 1)) (nat 1) (λ q. q ⊠ x)
power_minus_one x X = algebraic_same x (minus_of (nat 1)) (nat 1) (nat 1) (λ q. power 1 q ⊠ power 1 x) (λ q. q ⊠ x) (itself (nat 1)) pair (power_minus x X (nat 1))
  where
    pair : (q : Frac) → Same (power 1 q ⊠ power 1 x) (q ⊠ x)
    pair q = unfold power in record { le = omega arith; ge = omega arith }

-- ---- a distance in these terms: r ≤ (1 + ε) q wherever a < b q, and (1 - ε) q ≤ r wherever b q < a
pub record AlgebraicWithin (ε r a : Frac) (b : Frac → Frac) : Type 0 where
  pub high : (q : Frac) → a ⊏ b q → r ⊑ q ⊞ ε ⊠ q
  pub low : (q : Frac) → b q ⊏ a → q ⊑ r ⊞ ε ⊠ q

pub within_algebraic : (ε x : Frac) (t : Signed) (r a : Frac) (b : Frac → Frac) → Algebraic x t a b → PowerWithin ε x t r → AlgebraicWithin ε r a b
within_algebraic ε x t r a b w p = record { high = λ q h. p.high q (w.above_back q h); low = λ q h. p.low q (w.below_back q h) }
