-- Where a search is collapsed no double lies between the ends. Assumes nothing.
use mathlib.Core.Path.{◌≡◌, refl, sym, subst}
use mathlib.Core.Logic.{inl, inr}
use mathlib.Core.Bool.{Bool, true, false}
use native.Mathlib.Nat.{not-le_of_lt}
use lib.Dec.{T}
use lib.Ieee.{Float, binary64, lt, le}
use lib.Ieee.Fits.{and_l, and_r, sub-fits}
use lib.Ieee.Positive.{between}
use Rattle.numerics.specs.Double.{◌⊕◌, ◌⊖◌, ◌⊘◌, pick}
use Rattle.numerics.specs.Tests.{or_split, lt→le}
use Rattle.numerics.specs.Spacing.{Good, le→count, lt→count}
use Rattle.numerics.specs.SpacingRounded.{Ranged}
use Rattle.numerics.specs.MiddleLaws.{middle_good}
use Rattle.numerics.specs.MiddleEnds.{no_double_between}
use Rattle.gerg_search.specs.Point.{margin_of, inside_of, next_of, collapsed_at}
use Rattle.interval.specs.Interval.{middle_of}
use Rattle.gerg_search.specs.States.{NoneBetween}
use Rattle.interval.specs.declared.Interval.{Interval}
use Rattle.gerg_search.proofs.Laws.Shrink.{newton_shrinks}

pub neighbours : (b : Interval) (rho f d : Float) → Ranged b.lo b.hi → collapsed_at b (next_of b rho f d) ≡ true → NoneBetween b.lo b.hi
unfolding next_of inside_of collapsed_at
neighbours b rho f d r = go (inside_of b (rho ⊖ f ⊘ d)) refl
  where
    go : (i : Bool) → inside_of b (rho ⊖ f ⊘ d) ≡ i → collapsed_at b (pick i (rho ⊖ f ⊘ d) (middle_of b)) ≡ true → NoneBetween b.lo b.hi
    -- Newton's point lies inside, so is no end
    go true i c y t o u =
        let x = rho ⊖ f ⊘ d in
        let k : T (inside_of b x) = subst T (sym i) tt in
        let s = newton_shrinks b.lo b.hi r x (sub-fits binary64 rho (f ⊘ d)) (and_l (lt (b.lo ⊕ margin_of b) x) (lt x (b.hi ⊖ margin_of b)) k) (and_r (lt (b.lo ⊕ margin_of b) x) (lt x (b.hi ⊖ margin_of b)) k) in
        elim (or_split (le x b.lo) (le b.hi x) c) [
          | inl h ↦ not-le_of_lt s.over (le→count x b.lo s.good r.low h)
          | inr h ↦ not-le_of_lt s.under (le→count b.hi x r.high s.good h)
        ]
    go false i c y t o u =
        let x = middle_of b in
        let g = middle_good b.lo b.hi r in
        let gy : Good y = record { above = between b.lo y b.hi r.low.above r.high.above (lt→le b.lo y o) (lt→le y b.hi u); held = t } in
        let oy = lt→count b.lo y r.low gy o in
        let uy = lt→count y b.hi gy r.high u in
        elim (or_split (le x b.lo) (le b.hi x) c) [
          | inl h ↦ no_double_between b.lo b.hi r (inl (le→count x b.lo g r.low h)) y gy oy uy
          | inr h ↦ no_double_between b.lo b.hi r (inr (le→count b.hi x r.high g h)) y gy oy uy
        ]
