-- A bracket's next density leaves at most 0.91 of the width on either side of it. Everything is a whole number of the smallest double. Assumes nothing.
use mathlib.Core.Path.{◌≡◌, refl, sym, ap, subst}
use Prim.Native.Nat.{ℕ, suc, ◌+◌, ◌-◌, ◌*◌, ◌^◌, ◌≤◌, ◌<◌}
use native.Mathlib.Nat.{lt_of_not-le, not-le_of_lt}
use native.Mathlib.Omega.{arith}
use mathlib.Core.Bool.{Bool, true, false}
use lib.IntN.{negsuc}
use lib.Dec.{T, lit≤}
use lib.Ieee.{Float, fin, binary64, of_bits, fits, lt, le}
use lib.Ieee.Fits.{and_l, and_r, sub-fits}
use lib.Ieee.Positive.{num, den, positive, between}
use Rattle.numerics.specs.Frac.{◌⊑◌, ◌⊞◌, big, small}
use Rattle.numerics.specs.Round.{val}
use Rattle.numerics.specs.Rel.{less, add_is, sub_is}
use Rattle.numerics.specs.Common.{le_on, on_add, on_less}
use Rattle.numerics.specs.Fixed.{above_round, below_round}
use Rattle.numerics.specs.Double.{◌⊕◌, ◌⊖◌, ◌⊗◌, ◌⊘◌, pick}
use Rattle.numerics.specs.Tests.{clash, or_false, lt→le}
use Rattle.numerics.specs.Middle.{half, middle}
use Rattle.numerics.specs.Spacing.{unit, unit_pos, count, counted, gap, Good, lt→cross, count→le}
use Rattle.numerics.specs.SpacingRounded.{OneRounding, rough, Ranged, sum_good, less_good, part_good, part_near}
use Rattle.numerics.specs.MiddleLaws.{product, more, width_good, width_near, width_least, width_most, half_near, middle_good, middle_near}
use Rattle.gerg_search.specs.Point.{tenth, margin_of, inside_of, next_of, collapsed_at}
use Rattle.interval.specs.Interval.{middle_of}
use Rattle.interval.specs.declared.Interval.{Interval}

-- 0.1 is 3602879701896397 / 2 ^ 55
tenth_is : tenth ≡ fin false 3602879701896397 (negsuc 54)
unfolding of_bits
tenth_is = refl

-- x lies strictly between the ends, and neither part is more than 0.91 of the whole
pub record Shrunk (lo x hi : Float) : Type 0 where
  pub good : Good x
  pub over : count lo < count x
  pub under : count x < count hi
  pub left : 100 * (count x - count lo) ≤ 91 * (count hi - count lo)
  pub right : 100 * (count hi - count x) ≤ 91 * (count hi - count lo)

-- The middle r of l and h, m being half the width: by the rounding of the sum and the gap below r the width is at most four times r - l, nearly;
-- by the gap above r, twice r - l is at most the width and half of it.
below_middle : (l r h m : ℕ) → l < r → r < h → (l + m) * small ≤ r * big → l * suc big ≤ r * big → m * small ≤ 2 * (r - l) * big
unfolding small big
below_middle l r h m o u a g = omega arith

above_middle : (l r h m : ℕ) → l < r → r < h → r * small ≤ (l + m) * big → r * suc big ≤ h * big → r - l ≤ h - r + m
unfolding small big
above_middle l r h m o u a g = omega arith

right_part : (l r h w m : ℕ) → l < r → r < h → (h - l) * 999999 ≤ w * 1000000 → 1 * w * 999999 ≤ 2 * m * 1000000 → m * 999999 ≤ 2 * (r - l) * 1000000 → 100 * (h - r) ≤ 91 * (h - l)
right_part l r h w m o u a b c = omega arith

left_part : (l r h w m : ℕ) → l < r → r < h → w * 999999 ≤ (h - l) * 1000000 → 2 * m * 999999 ≤ 1 * w * 1000000 → r - l ≤ h - r + m → 100 * (r - l) ≤ 91 * (h - l)
left_part l r h w m o u a b c = omega arith

newton_parts : (l x h m : ℕ) → (h - l) * 999 ≤ m * 10000 → l + m < x → x < h - m → (100 * (x - l) ≤ 91 * (h - l)) × (100 * (h - x) ≤ 91 * (h - l))
newton_parts l x h m a o u = omega arith

module _ (lo hi : Float) (r : Ranged lo hi) where
  -- ---- a tenth of it
  margin_good : Good (tenth ⊗ (hi ⊖ lo))
  margin_good =
      part_good tenth (hi ⊖ lo) 3602879701896397 (2 ^ 55) (subst (λ (z : Float). T (positive z)) (sym tenth_is) tt) (ap num tenth_is) (ap den tenth_is) (lit≤ tt) (width_good lo hi r)
      (product (2 ^ 55) 3602879701896397 (2 ^ 10) unit (count (hi ⊖ lo)) (2 ^ 64) (2 ^ 200) (lit≤ tt) (width_least lo hi r) (lit≤ tt))
      (product 3602879701896397 (2 ^ 55) 1 (count (hi ⊖ lo)) unit (2 ^ 16) (2 ^ 200) (lit≤ tt) (width_most lo hi r) (lit≤ tt))

  margin_near : OneRounding (2 ^ 55 * count (tenth ⊗ (hi ⊖ lo))) (3602879701896397 * count (hi ⊖ lo))
  margin_near =
      part_near tenth (hi ⊖ lo) 3602879701896397 (2 ^ 55) (subst (λ (z : Float). T (positive z)) (sym tenth_is) tt) (ap num tenth_is) (ap den tenth_is) (lit≤ tt) (width_good lo hi r)
      (product (2 ^ 55) 3602879701896397 (2 ^ 10) unit (count (hi ⊖ lo)) (2 ^ 64) (2 ^ 200) (lit≤ tt) (width_least lo hi r) (lit≤ tt))
      (product 3602879701896397 (2 ^ 55) 1 (count (hi ⊖ lo)) unit (2 ^ 16) (2 ^ 200) (lit≤ tt) (width_most lo hi r) (lit≤ tt))

  -- more than 0.0999 of the width, and less than 0.2 of it
  margin_least : (count hi - count lo) * 999 ≤ count (tenth ⊗ (hi ⊖ lo)) * 10000
  margin_least = omega (arith, rough (3602879701896397 * count (hi ⊖ lo)) (2 ^ 55 * count (tenth ⊗ (hi ⊖ lo))) margin_near.below, rough (count hi - count lo) (count (hi ⊖ lo)) (width_near lo hi r).below)

  margin_most : count (tenth ⊗ (hi ⊖ lo)) * 5 ≤ count hi - count lo
  margin_most = omega (arith, rough (2 ^ 55 * count (tenth ⊗ (hi ⊖ lo))) (3602879701896397 * count (hi ⊖ lo)) margin_near.above, rough (count (hi ⊖ lo)) (count hi - count lo) (width_near lo hi r).above)

  -- ---- the middle, where it is no end
  middle_shrinks : count lo < count (middle lo hi) → count (middle lo hi) < count hi → Shrunk lo (middle lo hi) hi
  middle_shrinks o u =
      let x = middle lo hi in
      let m = count (half ⊗ (hi ⊖ lo)) in
      let w = count (hi ⊖ lo) in
      let g = middle_good lo hi r in
      record {
        good = g;
        over = o;
        under = u;
        left =
            left_part (count lo) (count x) (count hi) w m o u (rough w (count hi - count lo) (width_near lo hi r).above) (rough (2 * m) (1 * w) (half_near lo hi r).above)
            (above_middle (count lo) (count x) (count hi) m o u (middle_near lo hi r).above (gap x hi g.above g.held r.high.above r.high.held u));
        right =
            right_part (count lo) (count x) (count hi) w m o u (rough (count hi - count lo) w (width_near lo hi r).below) (rough (1 * w) (2 * m) (half_near lo hi r).below)
            (rough m (2 * (count x - count lo)) (below_middle (count lo) (count x) (count hi) m o u (middle_near lo hi r).below (gap lo x r.low.above r.low.held g.above g.held o)));
      }

  -- ---- Newton's point, where it lies inside
  low_good : Good (lo ⊕ tenth ⊗ (hi ⊖ lo))
  low_good =
      sum_good lo (tenth ⊗ (hi ⊖ lo)) r.low margin_good
      (more unit (count lo + count (tenth ⊗ (hi ⊖ lo))) (2 ^ 10) (2 ^ 200) (omega (arith, r.least)) (lit≤ tt))
      (more (count lo + count (tenth ⊗ (hi ⊖ lo))) unit (2 ^ 17) (2 ^ 200) (omega (arith, r.rises, r.most, margin_most)) (lit≤ tt))

  high_good : Good (hi ⊖ tenth ⊗ (hi ⊖ lo))
  high_good =
      less_good hi (tenth ⊗ (hi ⊖ lo)) r.high margin_good (omega (arith, margin_most))
      (more unit (count hi - count (tenth ⊗ (hi ⊖ lo))) (2 ^ 10) (2 ^ 200) (omega (arith, r.least, r.rises, margin_most)) (lit≤ tt))
      (more (count hi - count (tenth ⊗ (hi ⊖ lo))) unit (2 ^ 15) (2 ^ 200) (omega (arith, r.most)) (lit≤ tt))

  module _ (x : Float) (fit : T (fits binary64 x)) (l : T (lt (lo ⊕ tenth ⊗ (hi ⊖ lo)) x)) (u : T (lt x (hi ⊖ tenth ⊗ (hi ⊖ lo)))) where
    newton_good : Good x
    newton_good = record {
      above = between (lo ⊕ tenth ⊗ (hi ⊖ lo)) x (hi ⊖ tenth ⊗ (hi ⊖ lo)) low_good.above high_good.above (lt→le (lo ⊕ tenth ⊗ (hi ⊖ lo)) x l) (lt→le x (hi ⊖ tenth ⊗ (hi ⊖ lo)) u);
      held = fit;
    }

    -- beyond the rounded sum, so beyond the sum
    newton_over : count lo + count (tenth ⊗ (hi ⊖ lo)) < count x
    newton_over =
        let m = tenth ⊗ (hi ⊖ lo) in
        let z = val lo ⊞ val m in
        let e = add_is binary64 lo m r.low.above margin_good.above in
        let on = on_add unit (val lo) (val m) (count lo) (count m) (counted lo r.low.above r.low.held) (counted m margin_good.above margin_good.held) in
        let c = above_round binary64 x newton_good.above fit z (subst (λ (y : Float). T (positive y)) e low_good.above) (subst (λ (y : Float). num y * den x < num x * den y) e (lt→cross (lo ⊕ m) x low_good.above newton_good.above l)) in
        lt_of_not-le (λ (g : count x ≤ count lo + count m). not-le_of_lt c (le_on unit (val x) z (count x) (count lo + count m) unit_pos (counted x newton_good.above fit) on g))

    newton_under : count x < count hi - count (tenth ⊗ (hi ⊖ lo))
    newton_under =
        let m = tenth ⊗ (hi ⊖ lo) in
        let z = less (val hi) (val m) in
        let o : val m ⊑ val hi = le_on unit (val m) (val hi) (count m) (count hi) unit_pos (counted m margin_good.above margin_good.held) (counted hi r.high.above r.high.held) (omega (arith, margin_most)) in
        let e = sub_is binary64 hi m r.high.above margin_good.above o in
        let on = on_less unit (val hi) (val m) (count hi) (count m) (counted hi r.high.above r.high.held) (counted m margin_good.above margin_good.held) in
        let c = below_round binary64 x newton_good.above fit z (subst (λ (y : Float). T (positive y)) e high_good.above) (subst (λ (y : Float). num x * den y < num y * den x) e (lt→cross x (hi ⊖ m) newton_good.above high_good.above u)) in
        lt_of_not-le (λ (g : count hi - count m ≤ count x). not-le_of_lt c (le_on unit z (val x) (count hi - count m) (count x) unit_pos on (counted x newton_good.above fit) g))

    pub newton_shrinks : Shrunk lo x hi
    newton_shrinks =
        let p = newton_parts (count lo) (count x) (count hi) (count (tenth ⊗ (hi ⊖ lo))) margin_least newton_over newton_under in
        record { good = newton_good; over = omega (arith, newton_over); under = omega (arith, newton_under); left = p.0; right = p.1 }

-- ---- the next point of a bracket, where it is not collapsed
not_collapsed : (b : Interval) (x : Float) → collapsed_at b x ≡ false → (T (le x b.lo) → ⊥) × (T (le b.hi x) → ⊥)
unfolding collapsed_at
not_collapsed b x e = let n = or_false (le x b.lo) (le b.hi x) e in (λ t. clash t n.0, λ t. clash t n.1)

pub next_shrinks : (b : Interval) (rho f d : Float) → Ranged b.lo b.hi → collapsed_at b (next_of b rho f d) ≡ false → Shrunk b.lo (next_of b rho f d) b.hi
unfolding next_of inside_of
next_shrinks b rho f d r = go (inside_of b (rho ⊖ f ⊘ d)) refl
  where
    go : (i : Bool) → inside_of b (rho ⊖ f ⊘ d) ≡ i → collapsed_at b (pick i (rho ⊖ f ⊘ d) (middle_of b)) ≡ false → Shrunk b.lo (pick i (rho ⊖ f ⊘ d) (middle_of b)) b.hi
    go true i c =
        let x = rho ⊖ f ⊘ d in
        let t : T (inside_of b x) = subst T (sym i) tt in
        newton_shrinks b.lo b.hi r x (sub-fits binary64 rho (f ⊘ d)) (and_l (lt (b.lo ⊕ margin_of b) x) (lt x (b.hi ⊖ margin_of b)) t) (and_r (lt (b.lo ⊕ margin_of b) x) (lt x (b.hi ⊖ margin_of b)) t)
    go false i c =
        let x = middle_of b in
        let n = not_collapsed b x c in
        let g = middle_good b.lo b.hi r in
        middle_shrinks b.lo b.hi r
        (lt_of_not-le (λ (h : count x ≤ count b.lo). n.0 (count→le x b.lo g r.low h)))
        (lt_of_not-le (λ (h : count b.hi ≤ count x). n.1 (count→le b.hi x r.high g h)))
