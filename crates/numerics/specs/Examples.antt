-- Examples: five polynomial identities and one inequality, each closed by one call of the normaliser; the same by `omega arith` where it suffices;
-- and why a rounding's bound is no smaller, and the tail's bound not left out.
use Rattle.std.specs.Prelude.{◌≡◌, refl, ℕ, ◌+◌, ◌*◌, ◌^◌, ◌≤◌, pos, negsuc, false}
use Rattle.std.proofs.Common.{mul-le-mul, arith, lit≤}
use Rattle.std.specs.Int.Count.{count_trailing_zeros}
use Rattle.std.specs.Float.{fin, binary64}
use Rattle.std.specs.Float.Ieee.{add, sum, round, units, odd, size, span, climb}
use Rattle.numerics.specs.Frac.{Frac, ◌⊑◌, ◌⊏◌, ◌⊞◌, ◌⊠◌, nat}
use Rattle.numerics.specs.Series.{sum_bot}
use Rattle.numerics.specs.Exponential.{plus_of, powers, sums, gain, loss, BelowExp}
use Rattle.numerics.specs.Ring.{con, ◌⊕◌, ◌⊗◌, equal, at_most, ring₂, ring₃, ring₄, ring_le₃}

-- ---- identities by `ring`
square : (a b : ℕ) → (a + b) * (a + b) ≡ a * a + 2 * a * b + b * b
unfolding equal
square = ring₂ (λ x y. (x ⊕ y) ⊗ (x ⊕ y)) (λ x y. x ⊗ x ⊕ con 2 ⊗ x ⊗ y ⊕ y ⊗ y) tt

cube : (a b c : ℕ) → (a + b) * (a + b) * (a + b) * c ≡ c * (a * a * a + 3 * a * a * b + 3 * a * b * b + b * b * b)
unfolding equal
cube = ring₃ (λ a b c. (a ⊕ b) ⊗ (a ⊕ b) ⊗ (a ⊕ b) ⊗ c) (λ a b c. c ⊗ (a ⊗ a ⊗ a ⊕ con 3 ⊗ a ⊗ a ⊗ b ⊕ con 3 ⊗ a ⊗ b ⊗ b ⊕ b ⊗ b ⊗ b)) tt

regrouped : (a b c d : ℕ) → a * b * (c * d) * (a * d) ≡ d * (c * (d * (a * (b * a))))
unfolding equal
regrouped = ring₄ (λ a b c d. a ⊗ b ⊗ (c ⊗ d) ⊗ (a ⊗ d)) (λ a b c d. d ⊗ (c ⊗ (d ⊗ (a ⊗ (b ⊗ a))))) tt

-- a numeral of 55 digits: omega refuses it
long : (a b : ℕ) → 1000000000000000000000000000000000000000000000000000000 * a + b * a ≡ a * (b + 1000000000000000000000000000000000000000000000000000000)
unfolding equal
long = ring₂ (λ x y. con 1000000000000000000000000000000000000000000000000000000 ⊗ x ⊕ y ⊗ x) (λ x y. x ⊗ (y ⊕ con 1000000000000000000000000000000000000000000000000000000)) tt

-- (a + b + c + d) ^ 4 in two groupings: 35 monomials from 256 products
wide : (a b c d : ℕ) → (a + b + c + d) * (a + b + c + d) * (a + b + c + d) * (a + b + c + d) ≡ (a + b + c + d) * ((a + b + c + d) * (a + b + c + d)) * (d + c + b + a)
unfolding equal
wide = ring₄ (λ a b c d. (a ⊕ b ⊕ c ⊕ d) ⊗ (a ⊕ b ⊕ c ⊕ d) ⊗ (a ⊕ b ⊕ c ⊕ d) ⊗ (a ⊕ b ⊕ c ⊕ d)) (λ a b c d. (a ⊕ b ⊕ c ⊕ d) ⊗ ((a ⊕ b ⊕ c ⊕ d) ⊗ (a ⊕ b ⊕ c ⊕ d)) ⊗ (d ⊕ c ⊕ b ⊕ a)) tt

-- ---- an inequality by `ring_le`
cubes : (a b c : ℕ) → a * a * a + b * b * b + 6 * a * b * c + c * c * c ≤ (a + b + c) * (a + b + c) * (a + b + c)
unfolding at_most
cubes = ring_le₃ (λ a b c. a ⊗ a ⊗ a ⊕ b ⊗ b ⊗ b ⊕ con 6 ⊗ a ⊗ b ⊗ c ⊕ c ⊗ c ⊗ c) (λ a b c. (a ⊕ b ⊕ c) ⊗ (a ⊕ b ⊕ c) ⊗ (a ⊕ b ⊕ c)) tt

-- ---- `omega` multiplies out and sorts too, and takes a product of two inequalities as a hint
nine : (a b c d e f g h i : ℕ) → a * b * c * (d * e * f) * (g * h * i) ≡ i * (h * (g * (f * (e * (d * (c * (b * a)))))))
nine a b c d e f g h i = omega arith

crossed : (a b c d x y : ℕ) → a * d ≤ c * b → x * b ≤ y * d → a * x * (b * d) ≤ c * b * (y * d)
crossed a b c d x y h k = omega (arith, mul-le-mul h k)

-- ---- the bound 2 ^ -53 of a rounding is needed: 1 + 2 ^ -53 gives 1, which is further from it than 2 ^ -54 of it
half_way : add binary64 (fin false 1 (pos 0)) (fin false 1 (negsuc 52)) ≡ fin false 1 (pos 0)
unfolding add sum round units odd size span climb count_trailing_zeros
half_way = refl

abbrev sum_exact : Frac
sum_exact = record { top = 2 ^ 53 + 1; bot = 2 ^ 53; good = lit≤ tt }

further : nat 1 ⊞ record { top = 1; bot = 2 ^ 54; good = lit≤ tt } ⊠ sum_exact ⊏ sum_exact
further = lit≤ tt

-- ---- the tail's bound is needed: the partial sum 1 + 1 at 1 is at most 2, and 5 / 2 lies below e
below_e : BelowExp (plus_of (nat 1)) (record { top = 5; bot = 2; good = lit≤ tt })
unfolding sums powers sum_bot
below_e = (4, (lit≤ tt, lit≤ tt))

no_tail : gain 1 (plus_of (nat 1)) ⊑ nat 2 ⊞ loss 1 (plus_of (nat 1))
unfolding sums powers sum_bot
no_tail = lit≤ tt
