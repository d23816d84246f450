-- The width of a range of doubles, the half of it and the middle, as whole numbers of the smallest double: the middle lies between the ends, which it may equal. Assumes nothing.
use Rattle.std.specs.Prelude.{◌≡◌, refl, ℕ, ◌+◌, ◌-◌, ◌*◌, ◌^◌, ◌≤◌, false, negsuc, Float}
use Rattle.std.proofs.Common.{sym, ap, subst, le_trans, le_of_eq, le_of_lt, mul-le-mul, mul-le-mul_left, arith, lit≤}
use Rattle.std.proofs.Math.Dec.{T}
use Rattle.std.specs.Float.{fin}
use Rattle.std.specs.Float.Ieee.{binary64, of_bits}
use Rattle.std.specs.Float.Ieee.Positive.{num, den, positive}
use Rattle.numerics.specs.Frac.{◌⊑◌, ◌⊞◌, big}
use Rattle.numerics.specs.Round.{val}
use Rattle.numerics.specs.Rel.{add_is}
use Rattle.numerics.specs.Common.{On, on_le, le_on, on_add}
use Rattle.numerics.specs.Fixed.{value_le_round, round_le_value}
use Rattle.numerics.specs.Double.{◌⊕◌, ◌⊖◌, ◌⊗◌}
use Rattle.numerics.specs.Middle.{half, middle}
use Rattle.numerics.specs.Spacing.{unit, unit_pos, count, counted, gap, Good}
use Rattle.numerics.specs.SpacingRounded.{OneRounding, rough, Ranged, sum_good, sum_near, less_good, less_near, part_good, part_near}

-- D ≤ n A and u ≤ m B
pub product : (D n A u m B K : ℕ) → D ≤ n * A → u ≤ m * B → A * B ≤ K → D * u ≤ n * m * K
product D n A u m B K h k l = le_trans (mul-le-mul h k) (le_trans (le_of_eq (regroup n A m B)) (mul-le-mul_left (n * m) l))
  where
    regroup : (n A m B : ℕ) → n * A * (m * B) ≡ n * m * (A * B)
    regroup n A m B = omega arith

pub more : (u m A K : ℕ) → u ≤ m * A → A ≤ K → u ≤ m * K
more u m A K h l = le_trans h (mul-le-mul_left m l)

-- 0.5 is 1 / 2
pub half_is : half ≡ fin false 1 (negsuc 0)
unfolding of_bits
half_is = refl

module _ (lo hi : Float) (r : Ranged lo hi) where
  wide : count lo ≤ (count hi - count lo) * 2 ^ 53
  unfolding big
  wide = let g = gap lo hi r.low.above r.low.held r.high.above r.high.held r.rises in omega (arith, r.rises)

  pub floor : unit ≤ (count hi - count lo) * 2 ^ 63
  floor = omega (arith, wide, r.least)

  pub ceiling : count hi - count lo ≤ unit * 2 ^ 15
  ceiling = omega (arith, r.most)

  -- ---- the width, rounded
  pub width_good : Good (hi ⊖ lo)
  width_good = less_good hi lo r.high r.low (le_of_lt r.rises) (more unit (count hi - count lo) (2 ^ 63) (2 ^ 200) floor (lit≤ tt)) (more (count hi - count lo) unit (2 ^ 15) (2 ^ 200) ceiling (lit≤ tt))

  pub width_near : OneRounding (count (hi ⊖ lo)) (count hi - count lo)
  width_near = less_near hi lo r.high r.low (le_of_lt r.rises) (more unit (count hi - count lo) (2 ^ 63) (2 ^ 200) floor (lit≤ tt)) (more (count hi - count lo) unit (2 ^ 15) (2 ^ 200) ceiling (lit≤ tt))

  pub width_least : unit ≤ count (hi ⊖ lo) * 2 ^ 64
  width_least = omega (arith, floor, rough (count hi - count lo) (count (hi ⊖ lo)) width_near.below)

  pub width_most : count (hi ⊖ lo) ≤ unit * 2 ^ 16
  width_most = omega (arith, ceiling, rough (count (hi ⊖ lo)) (count hi - count lo) width_near.above)

  -- ---- half of it, and the middle
  pub half_good : Good (half ⊗ (hi ⊖ lo))
  half_good =
      part_good half (hi ⊖ lo) 1 2 (subst (λ (z : Float). T (positive z)) (sym half_is) tt) (ap num half_is) (ap den half_is) (lit≤ tt) width_good
      (product 2 1 2 unit (count (hi ⊖ lo)) (2 ^ 64) (2 ^ 200) (lit≤ tt) width_least (lit≤ tt))
      (product 1 2 1 (count (hi ⊖ lo)) unit (2 ^ 16) (2 ^ 200) (lit≤ tt) width_most (lit≤ tt))

  pub half_near : OneRounding (2 * count (half ⊗ (hi ⊖ lo))) (1 * count (hi ⊖ lo))
  half_near =
      part_near half (hi ⊖ lo) 1 2 (subst (λ (z : Float). T (positive z)) (sym half_is) tt) (ap num half_is) (ap den half_is) (lit≤ tt) width_good
      (product 2 1 2 unit (count (hi ⊖ lo)) (2 ^ 64) (2 ^ 200) (lit≤ tt) width_least (lit≤ tt))
      (product 1 2 1 (count (hi ⊖ lo)) unit (2 ^ 16) (2 ^ 200) (lit≤ tt) width_most (lit≤ tt))

  half_most : count (half ⊗ (hi ⊖ lo)) ≤ unit * 2 ^ 16
  half_most = omega (arith, width_most, rough (2 * count (half ⊗ (hi ⊖ lo))) (1 * count (hi ⊖ lo)) half_near.above)

  pub half_sum : On unit (val lo ⊞ val (half ⊗ (hi ⊖ lo))) (count lo + count (half ⊗ (hi ⊖ lo)))
  half_sum = on_add unit (val lo) (val (half ⊗ (hi ⊖ lo))) (count lo) (count (half ⊗ (hi ⊖ lo))) (counted lo r.low.above r.low.held) (counted (half ⊗ (hi ⊖ lo)) half_good.above half_good.held)

  half_fits : count lo + count (half ⊗ (hi ⊖ lo)) ≤ count hi
  half_fits = omega (arith, r.rises, rough (2 * count (half ⊗ (hi ⊖ lo))) (1 * count (hi ⊖ lo)) half_near.above, rough (count (hi ⊖ lo)) (count hi - count lo) width_near.above)

  pub middle_good : Good (middle lo hi)
  unfolding middle
  middle_good =
      sum_good lo (half ⊗ (hi ⊖ lo)) r.low half_good
      (more unit (count lo + count (half ⊗ (hi ⊖ lo))) (2 ^ 10) (2 ^ 200) (omega (arith, r.least)) (lit≤ tt))
      (more (count lo + count (half ⊗ (hi ⊖ lo))) unit (2 ^ 17) (2 ^ 200) (omega (arith, r.rises, r.most, half_most)) (lit≤ tt))

  pub middle_near : OneRounding (count (middle lo hi)) (count lo + count (half ⊗ (hi ⊖ lo)))
  unfolding middle
  middle_near =
      sum_near lo (half ⊗ (hi ⊖ lo)) r.low half_good
      (more unit (count lo + count (half ⊗ (hi ⊖ lo))) (2 ^ 10) (2 ^ 200) (omega (arith, r.least)) (lit≤ tt))
      (more (count lo + count (half ⊗ (hi ⊖ lo))) unit (2 ^ 17) (2 ^ 200) (omega (arith, r.rises, r.most, half_most)) (lit≤ tt))

  -- it lies between the ends, which it may equal
  pub middle_from : count lo ≤ count (middle lo hi)
  unfolding middle
  middle_from =
      let h = half ⊗ (hi ⊖ lo) in
      let z = val lo ⊞ val h in
      let e = add_is binary64 lo h r.low.above half_good.above in
      let x = lo ⊕ h in
      on_le unit (val lo) (val x) (count lo) (count x) (counted lo r.low.above r.low.held) (counted x middle_good.above middle_good.held)
      (subst (λ (y : Float). val lo ⊑ val y) (sym e)
      (value_le_round binary64 lo r.low.above r.low.held z (subst (λ (y : Float). T (positive y)) e middle_good.above)
      (le_on unit (val lo) z (count lo) (count lo + count h) unit_pos (counted lo r.low.above r.low.held) half_sum (omega arith))))

  pub middle_to : count (middle lo hi) ≤ count hi
  unfolding middle
  middle_to =
      let h = half ⊗ (hi ⊖ lo) in
      let z = val lo ⊞ val h in
      let e = add_is binary64 lo h r.low.above half_good.above in
      let x = lo ⊕ h in
      on_le unit (val x) (val hi) (count x) (count hi) (counted x middle_good.above middle_good.held) (counted hi r.high.above r.high.held)
      (subst (λ (y : Float). val y ⊑ val hi) (sym e)
      (round_le_value binary64 hi r.high.above r.high.held z (subst (λ (y : Float). T (positive y)) e middle_good.above)
      (le_on unit z (val hi) (count lo + count h) (count hi) unit_pos half_sum (counted hi r.high.above r.high.held) half_fits)))
