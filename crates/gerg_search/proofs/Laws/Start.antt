-- What row 13 leaves of the bracket and the tolerance, row 14 of the target, and what the ends' verdicts leave of their signs. Assumes nothing.
use mathlib.Core.Path.{◌≡◌, refl, sym, ap, ◌∙◌, subst}
use mathlib.Core.Bool.{Bool, true, false, not, ◌||◌}
use Prim.Native.Nat.{ℕ, zero, suc, ◌*◌, ◌^◌, ◌≤◌, ◌<◌}
use native.Mathlib.Nat.{lt_of_not-le, le_of_suc-le-suc}
use native.Mathlib.Omega.{arith}
use borrow.Author.Tests.{eqb-false}
use lib.IntN.{pos, negsuc}
use lib.Dec.{T, eqb, lit≤}
use lib.Ieee.{Float, fin, of_bits, is_nan, lt, le, neg}
use lib.Ieee.Scale.{finite}
use lib.Ieee.Positive.{num, den, positive, le_trans_positive}
use Rattle.numerics.specs.Frac.{Frac, ◌⊑◌, ⊑_trans, nat}
use Rattle.numerics.specs.Round.{val}
use Rattle.numerics.specs.Common.{on_le}
use Rattle.numerics.specs.Double.{+0, pick}
use Rattle.numerics.specs.Tests.{clash, holds, is_true, not-false, or_false}
use Rattle.numerics.specs.Order.{not_less, less_numbers, not_greater, positive_above}
use Rattle.numerics.specs.Zero.{at_least, above_it, above_zero, level_with_zero}
use Rattle.numerics.specs.Spacing.{unit, count, counted, Good, cross→lt, cross→count}
use Rattle.numerics.specs.SpacingRounded.{Ranged}
use Rattle.gerg_search.specs.Checks.{options_refused, target_refused, least_density, most_density, most_tolerance}
use Rattle.gerg_search.specs.Point.{within_of}
use Rattle.gerg_search.specs.States.{Doubles}
use Rattle.gerg_search.specs.declared.Options.{Options}

-- ---- a residual that is a number, not above zero and not within the tolerance, is below zero
pub below_zero : (t f : Float) → T (positive t) → is_nan f ≡ false → lt +0 f ≡ false → within_of t f ≡ false → lt f +0 ≡ true
unfolding within_of
below_zero t f p n u w = go (lt f +0) refl w
  where
    go : (b : Bool) → lt f +0 ≡ b → pick b (le (neg f) t) (le f t) ≡ false → b ≡ true
    go true e w = refl
    go false e w = absurd (level_with_zero t f p n u e w)

-- and one that is not below zero is above it
pub over_zero : (t f : Float) → T (positive t) → is_nan f ≡ false → lt f +0 ≡ false → within_of t f ≡ false → T (lt +0 f)
unfolding within_of
over_zero t f p n d w = go (lt +0 f) refl
  where
    outside : le f t ≡ false
    outside = ap (λ (b : Bool). pick b (le (neg f) t) (le f t)) (sym d) ∙ w

    go : (b : Bool) → lt +0 f ≡ b → T b
    go true e = tt
    go false e = absurd (level_with_zero t f p n e d outside)

-- ---- the ends of the range as fractions
least_is : least_density ≡ fin false 1152921504606847 (negsuc 59)
unfolding of_bits
least_is = refl

most_is : most_density ≡ fin false 1875 (pos 4)
unfolding of_bits
most_is = refl

abbrev thousandth : Frac
thousandth = record { top = 1; bot = 2 ^ 10; good = lit≤ tt }

-- what row 13 leaves
pub record Begun (o : Options) : Type 0 where
  pub ranged : Ranged o.bracket.lo o.bracket.hi
  pub tolerance : T (positive o.tolerance)
  pub limit : eqb o.limit 0 ≡ false

pub begun : (o : Options) → Doubles o → options_refused o ≡ false → Begun o
unfolding options_refused
begun o h e =
    let lo = o.bracket.lo in
    let hi = o.bracket.hi in
    let t = o.tolerance in
    let e9 = or_false _ (lt most_tolerance t) e in
    let e8 = or_false _ (le t +0) e9.0 in
    let e7 = or_false _ (not (finite t)) e8.0 in
    let e6 = or_false _ (eqb o.limit 0) e7.0 in
    let e5 = or_false _ (lt most_density hi) e6.0 in
    let e4 = or_false _ (lt lo least_density) e5.0 in
    let e3 = or_false _ (le hi lo) e4.0 in
    let e2 = or_false (not (finite lo)) (not (finite hi)) e3.0 in
    let l = at_least least_density lo (subst (λ (z : Float). T (positive z)) (sym least_is) tt) (not-false (finite lo) e2.0) e4.1 in
    let u = above_it lo hi l.0 (not-false (finite hi) e2.1) e3.1 in
    let gl : Good lo = record { above = l.0; held = h.lo } in
    let gh : Good hi = record { above = u.0; held = h.hi } in
    record {
      ranged = record {
        low = gl;
        high = gh;
        rises = cross→count lo hi gl gh u.1;
        least = least lo gl l.1;
        most = most hi gh (lt_of_not_lt (num most_density * den hi) (num hi * den most_density) (λ k. clash (cross→lt most_density hi (subst (λ (z : Float). T (positive z)) (sym most_is) tt) u.0 k) e5.1));
      };
      tolerance = above_zero t (not-false (finite t) e7.1) e8.1;
      limit = e6.1;
    }
  where
    lt_of_not_lt : (a b : ℕ) → (a < b → ⊥) → b ≤ a
    lt_of_not_lt a b h = le_of_suc-le-suc (lt_of_not-le h)

    least : (lo : Float) → Good lo → num least_density * den lo ≤ num lo * den least_density → unit ≤ count lo * 2 ^ 10
    least lo g h =
        on_le (unit * 2 ^ 10) thousandth (val lo) unit (count lo * 2 ^ 10) (omega arith) (regroup (num lo) (den lo) (count lo) unit (counted lo g.above g.held))
        (⊑_trans thousandth (val least_density) (val lo) (subst (λ (z : Float). thousandth ⊑ val z) (sym least_is) (lit≤ tt)) h)
      where
        regroup : (a b k u : ℕ) → a * u ≡ k * b → a * (u * 2 ^ 10) ≡ k * 2 ^ 10 * b
        regroup a b k u e = omega (arith, ap (λ (z : ℕ). 2 ^ 10 * z) e)

    most : (hi : Float) → Good hi → num hi * den most_density ≤ num most_density * den hi → count hi ≤ unit * 2 ^ 15
    most hi g h =
        on_le unit (val hi) (nat (2 ^ 15)) (count hi) (unit * 2 ^ 15) (counted hi g.above g.held) (omega arith)
        (⊑_trans (val hi) (val most_density) (nat (2 ^ 15)) h (subst (λ (z : Float). val z ⊑ nat (2 ^ 15)) (sym most_is) (lit≤ tt)))

-- what row 14 leaves
pub target_positive : (high target : Float) → target_refused high target ≡ false → T (positive target)
unfolding target_refused
target_positive high target e =
    let e2 = or_false (not (finite target) || le target +0) (lt high target) e in
    let e1 = or_false (not (finite target)) (le target +0) e2.0 in
    above_zero target (not-false (finite target) e1.0) e1.1

-- and leaves under a higher end too
pub target_within : (a b target : Float) → T (positive a) → T (positive b) → T (le a b) → target_refused a target ≡ false → target_refused b target ≡ false
unfolding target_refused
target_within a b target p q h e =
    let e2 = or_false (not (finite target) || le target +0) (lt a target) e in
    let r = target_positive a target e in
    let l = not_less a target (less_numbers +0 a (positive_above a p)).1 (less_numbers +0 target (positive_above target r)).1 e2.1 in
    let u = le_trans_positive target a b r p q (holds (le target a) l) h in
    rw (e2.0, not_greater target b (is_true (le target b) u))

pub some_limit : (o : Options) → Begun o → 1 ≤ o.limit
some_limit o b = go o.limit (eqb-false o.limit 0 b.limit)
  where
    go : (n : ℕ) → (n ≡ 0 → ⊥) → 1 ≤ n
    go zero h = absurd (h refl)
    go (suc n) h = omega arith
