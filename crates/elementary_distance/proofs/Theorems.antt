-- The distances at the figures of specs/Distances.antt, and document 01's figures as their consequences; and what request 04 kept. Assumes nothing.
use mathlib.Core.Path.{◌≡◌, refl}
use mathlib.Core.Logic.{◌↔◌, ◌⊎◌, inl, inr}
use mathlib.Core.Bool.{true, false}
use Prim.Native.Nat.{ℕ}
use lib.Dec.{lit≤}
use lib.Ieee.{Float, nan, inf, fin, eq}
use Rattle.numerics.specs.Double.{+0, one, positive_finite}
use Rattle.numerics.specs.Fraction.{Frac, ◌⊑◌, ◌⊠◌, nat, part, val}
use Rattle.numerics.specs.Frac.{⊑_refl, ⊑_trans}
use Rattle.numerics.specs.Round.{num_pos}
use Rattle.numerics.specs.Order.{positive_of_tests}
use Rattle.numerics.specs.Law.{mono-⊠, power}
use Rattle.numerics.specs.Exponential.{signed, size, plus_of, BelowExp}
use Rattle.numerics.proofs.ExponentialLaws.{exp_below_times}
use Rattle.numerics.proofs.Distance.{within_weaken}
use Rattle.numerics.proofs.Logarithm.{ln_near_weaken}
use Rattle.numerics.specs.Power.{PowerWithin, ProductWithin}
use Rattle.numerics.proofs.ExponentOrder.{exp_one_more}
use Rattle.numerics.proofs.PowerAlgebra.{AlgebraicWithin, power_algebraic, within_algebraic}
use Rattle.numerics.proofs.PowerConditions.{PowerBetween, product_within_power, product_within_by}
use Rattle.elementary_exp.specs.Exp.{exp_of}
use Rattle.elementary_ln.specs.Ln.{ln_of}
use Rattle.elementary.specs.Power.{powf_of}
use Rattle.elementary.proofs.Laws.{powf_zero}
use Rattle.elementary_distance.specs.Distances.{ExpDistance, LnDistance, SqrtDistance, PowerDistance, TablePowerDistance, WithinOfPower, exp_bits, ln_bits, powf_bits}
use Rattle.elementary_distance.proofs.ExpEarlier.{earlier_exp_of}
use Rattle.elementary_distance.proofs.ExpKept as kept
use Rattle.elementary_distance.proofs.ExpDistance as exp
use Rattle.elementary_distance.proofs.LnDistance as ln
use Rattle.elementary_distance.proofs.SqrtNearest as sqrt
use Rattle.elementary_distance.proofs.PowfDistance.{powf_distance, one_exact}

-- ---- exp
-- "Every answer of exp keeps its bits" (request 04), whatever x is: those of the steps before it
pub exp_kept : (x : Float) → exp_of x ≡ earlier_exp_of x
exp_kept = kept.exp_kept

pub exp_distance : ExpDistance exp_bits
exp_distance = exp.exp_distance

exp_weaken : (k j : ℕ) → part k ⊑ part j → ExpDistance k → ExpDistance j
exp_weaken k j h d x a b = let t = d x a b in record { pos = t.pos; near = within_weaken (part k) (part j) (signed x) (val (exp_of x)) h t.near }

pub exp_tight : ExpDistance 46
exp_tight = exp_weaken exp_bits 46 (lit≤ tt) exp_distance

-- "exp: within 2^−40 of the exact value, relatively, for −700 to 700"
pub exp_within : ExpDistance 40
exp_within = exp_weaken exp_bits 40 (lit≤ tt) exp_distance

-- ---- ln
pub ln_distance : LnDistance ln_bits
ln_distance = ln.ln_distance

ln_weaken : (k j : ℕ) → part k ⊑ part j → LnDistance k → LnDistance j
ln_weaken k j h d x f p = let t = d x f p in record { number = t.number; near = ln_near_weaken (part k) (part j) (val x) (signed (ln_of x)) h t.near }

-- "ln: within 2^−44 × max(1, |ln x|) for each positive finite double x"
pub ln_distance_44 : LnDistance 44
ln_distance_44 = ln_weaken ln_bits 44 (lit≤ tt) ln_distance

-- ---- sqrt
-- "sqrt: the nearest double"
pub sqrt_nearest : SqrtDistance
sqrt_nearest = sqrt.sqrt_nearest

-- ---- powf
-- "For |t| ≤ 64 and |t × ln x| ≤ 64, x positive and finite, .. powf lies within 2^−36 of the exact power, relatively": of the product's rounding half a unit is 2^−47
pub powf_within : PowerDistance 64 powf_bits
powf_within = powf_distance 64 47 ln_bits exp_bits powf_bits (record { rounds = record { digits = lit≤ tt; half = lit≤ tt; below_one = lit≤ tt; under = lit≤ tt }; range = lit≤ tt; fine = lit≤ tt; half = lit≤ tt; room = lit≤ tt }) ln_distance exp_distance

-- the same with 256 for 64, where half a unit of the product is 2^−45
pub powf_wide : PowerDistance 256 powf_bits
powf_wide = powf_distance 256 45 ln_bits exp_bits powf_bits (record { rounds = record { digits = lit≤ tt; half = lit≤ tt; below_one = lit≤ tt; under = lit≤ tt }; range = lit≤ tt; fine = lit≤ tt; half = lit≤ tt; room = lit≤ tt }) ln_distance exp_distance

-- "|t × ln x| ≤ 64", as both ask it, holds just where e ^ -64 ≤ x ^ t ≤ e ^ 64
pub powf_condition : (b : Frac) (x t : Float) → positive_finite x ≡ true → ProductWithin (val x) (signed t) b ↔ PowerBetween (val x) (signed t) b
powf_condition b x t g = product_within_power (val x) (num_pos x (positive_of_tests x g)) (signed t) b (one_sign t)
  where
    one_sign : (t : Float) → ((signed t).minus ≡ 0) ⊎ ((signed t).plus ≡ 0)
    one_sign nan = inl refl
    one_sign (inf s) = inl refl
    one_sign (fin false m e) = inl refl
    one_sign (fin true m e) = inr refl

-- "1 for exponent 0", ±0, whatever x is: the exact power
pub powf_one : (x t : Float) → eq t +0 ≡ true → (powf_of x t ≡ one) × ((ε : Frac) → PowerWithin ε (val x) (signed t) (val (powf_of x t)))
powf_one x t e = rw (powf_zero x t e) (refl, one_exact x t e)

-- "tau raised to a table exponent": |ln x| ≤ 8, since 2 ^ 8 is below e ^ 8
pub powf_table : TablePowerDistance powf_bits
unfolding power
powf_table x t h g f low high few =
    powf_wide x t h g f (⊑_trans (size (signed t)) (nat 32) (nat 256) few (lit≤ tt))
    (product_within_by (val x) (signed t) (nat 256) (nat 8) (nat 256) (lit≤ tt) below high low (mono-⊠ (size (signed t)) (nat 32) (nat 8) (nat 8) few (⊑_refl (nat 8))))
  where
    below : BelowExp (plus_of (nat 8)) (nat 256)
    below = exp_below_times 8 (plus_of (nat 1)) (nat 2) (exp_one_more (nat 1))

-- the distance with neither exponential nor logarithm: for t = (P - M) / B the answer is at most (1 + 2 ^ -k) q wherever x ^ P < q ^ B x ^ M, and at least (1 - 2 ^ -k) q wherever q ^ B x ^ M < x ^ P
pub powf_algebraic : (k : ℕ) (x t : Float) → positive_finite x ≡ true → WithinOfPower k x t (powf_of x t)
    → AlgebraicWithin (part k) (val (powf_of x t)) (power (signed t).plus (val x)) (λ q. power (signed t).bot q ⊠ power (signed t).minus (val x))
powf_algebraic k x t g w =
    within_algebraic (part k) (val x) (signed t) (val (powf_of x t)) (power (signed t).plus (val x)) (λ q. power (signed t).bot q ⊠ power (signed t).minus (val x)) (power_algebraic (val x) (num_pos x (positive_of_tests x g)) (signed t)) w.near
