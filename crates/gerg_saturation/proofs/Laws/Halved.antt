-- One halving of an interval between 230 and 350 K, as whole numbers of the smallest double: a middle that is no end leaves half of the width, nearly, and less of it
-- by one gap between doubles at least. Assumes nothing.
use mathlib.Core.Path.{◌≡◌, sym, ap, ◌∙◌, subst}
use mathlib.Core.Logic.{inl, inr}
use mathlib.Core.Bool.{Bool, true, false, not, ◌&&◌, ◌||◌}
use Prim.Native.Nat.{ℕ, suc, ◌+◌, ◌-◌, ◌*◌, ◌≤◌, ◌<◌}
use native.Mathlib.Nat.{eq-or-lt_of_le}
use native.Mathlib.Omega.{arith}
use lib.Dec.{T}
use lib.Ieee.{Float, lt, eq}
use lib.Ieee.Fits.{and_l, and_r}
use lib.Ieee.Positive.{positive}
use Rattle.numerics.specs.Double.{◌⊖◌, ◌⊗◌, +0, pick}
use Rattle.numerics.specs.Finite.{eq_self}
use Rattle.numerics.specs.Frac.{big, small, small_suc}
use Rattle.numerics.specs.Middle.{half}
use Rattle.numerics.specs.MiddleLaws.{width_near, half_near, middle_good, middle_near, middle_from, middle_to}
use Rattle.numerics.specs.Order.{less_numbers, positive_above}
use Rattle.numerics.specs.Spacing.{unit, count, gap, Good, lt→count, count→lt, same}
use Rattle.numerics.specs.SpacingRounded.{OneRounding, Ranged, rough}
use Rattle.numerics.specs.Tests.{holds, is_true, clash, or_left, or_right, both_true}
use Rattle.interval.specs.Interval.{middle_of, narrowed_of, on_end}
use Rattle.gerg_saturation.specs.Halvings.{between_of}
use Rattle.interval.specs.declared.Interval.{Interval}

-- ---- the middle l + A of l and l + A + C, m being half the width w, which are rounded; s + 1 is 2 ^ 53
lower_part : (s l A C w m u : ℕ) → l + A + C ≤ 350 * u → w ≤ 121 * u → 2 * m ≤ 122 * u → w * s ≤ (A + C) * suc s → 2 * m * s ≤ 1 * w * suc s → (l + A) * s ≤ (l + m) * suc s → 2 * (A * suc s) ≤ (A + C) * suc s + 943 * u
lower_part s l A C w m u h x y c d e = omega arith

upper_part : (s l A C w m u : ℕ) → l + A + C ≤ 350 * u → w ≤ 121 * u → 2 * m ≤ 122 * u → (A + C) * s ≤ w * suc s → 1 * w * s ≤ 2 * m * suc s → (l + m) * s ≤ (l + A) * suc s → 2 * (C * suc s) ≤ (A + C) * suc s + 943 * u
upper_part s l A C w m u h x y c d e = omega arith

gap_parts : (B l A C u : ℕ) → 230 * u ≤ l → l * suc B ≤ (l + A) * B → (l + A) * suc B ≤ (l + A + C) * B → (230 * u ≤ A * B) × (230 * u ≤ C * B)
gap_parts B l A C u a b c = (omega arith, omega arith)

-- the same of l, r and h
module _ (l r h : ℕ) (o : l < r) (t : r < h) where
  r_is : r ≡ l + (r - l)
  r_is = omega (arith, o)

  h_is : h ≡ l + (r - l) + (h - r)
  h_is = omega (arith, o, t)

  w_is : h - l ≡ r - l + (h - r)
  w_is = omega (arith, o, t)

  module _ (s B w m u : ℕ) (e : suc s ≡ B) (k : h ≤ 350 * u) (x : w ≤ 121 * u) (y : 2 * m ≤ 122 * u) where
    left_half : w * s ≤ (h - l) * B → 2 * m * s ≤ 1 * w * B → r * s ≤ (l + m) * B → 2 * ((r - l) * B) ≤ (h - l) * B + 943 * u
    left_half =
        subst (λ (B : ℕ). w * s ≤ (h - l) * B → 2 * m * s ≤ 1 * w * B → r * s ≤ (l + m) * B → 2 * ((r - l) * B) ≤ (h - l) * B + 943 * u) e
        (λ c d f.
        subst (λ (z : ℕ). 2 * ((r - l) * suc s) ≤ z * suc s + 943 * u) (sym w_is)
        (lower_part s l (r - l) (h - r) w m u (subst (λ (z : ℕ). z ≤ 350 * u) h_is k) x y (subst (λ (z : ℕ). w * s ≤ z * suc s) w_is c) d (subst (λ (z : ℕ). z * s ≤ (l + m) * suc s) r_is f)))

    right_half : (h - l) * s ≤ w * B → 1 * w * s ≤ 2 * m * B → (l + m) * s ≤ r * B → 2 * ((h - r) * B) ≤ (h - l) * B + 943 * u
    right_half =
        subst (λ (B : ℕ). (h - l) * s ≤ w * B → 1 * w * s ≤ 2 * m * B → (l + m) * s ≤ r * B → 2 * ((h - r) * B) ≤ (h - l) * B + 943 * u) e
        (λ c d f.
        subst (λ (z : ℕ). 2 * ((h - r) * suc s) ≤ z * suc s + 943 * u) (sym w_is)
        (upper_part s l (r - l) (h - r) w m u (subst (λ (z : ℕ). z ≤ 350 * u) h_is k) x y (subst (λ (z : ℕ). z * s ≤ w * suc s) w_is c) d (subst (λ (z : ℕ). (l + m) * s ≤ z * suc s) r_is f)))

  -- the gaps on both sides
  gaps : (B u : ℕ) → 230 * u ≤ l → l * suc B ≤ r * B → r * suc B ≤ h * B → (230 * u ≤ (r - l) * B) × (230 * u ≤ (h - r) * B)
  gaps B u a b c =
      gap_parts B l (r - l) (h - r) u a (subst (λ (z : ℕ). l * suc B ≤ z * B) r_is b)
      (subst (λ (z : ℕ). z * suc B ≤ (l + (r - l) + (h - r)) * B) r_is (subst (λ (z : ℕ). r * suc B ≤ z * B) h_is c))

  whole : (B : ℕ) → (h - l) * B ≡ (r - l) * B + (h - r) * B
  whole B = ap (λ (z : ℕ). z * B) w_is ∙ spread (r - l) (h - r) B
    where
      spread : (a b c : ℕ) → (a + b) * c ≡ a * c + b * c
      spread a b c = omega arith

-- the rounded width and the half of it
width_most : (W w u : ℕ) → W ≤ 120 * u → w * 999999 ≤ W * 1000000 → w ≤ 121 * u
width_most W w u h k = omega arith

half_most : (w m u : ℕ) → w ≤ 121 * u → 2 * m * 999999 ≤ 1 * w * 1000000 → 2 * m ≤ 122 * u
half_most w m u h k = omega arith

-- ---- an interval between 230 and 350 K
pub record Within (lo hi : Float) : Type 0 where
  pub low : Good lo
  pub high : Good hi
  pub rises : count lo < count hi
  pub least : 230 * unit ≤ count lo
  pub most : count hi ≤ 350 * unit

abbrev pub width : Interval → ℕ
width b = count b.hi - count b.lo

ranged : (lo hi : Float) → Within lo hi → Ranged lo hi
ranged lo hi w = record { low = w.low; high = w.high; rises = w.rises; least = omega (arith, w.least); most = omega (arith, w.most) }

-- ---- the middle is an end or lies between the ends
equals_itself : (x : Float) → T (positive x) → T (eq x x)
equals_itself x p = holds (eq x x) (eq_self x ∙ ap not (less_numbers +0 x (positive_above x p)).1)

module _ (b : Interval) (w : Within b.lo b.hi) where
  r : Ranged b.lo b.hi
  r = ranged b.lo b.hi w

  pub middle_is_good : Good (middle_of b)
  middle_is_good = middle_good b.lo b.hi r

  -- strictly between, by the test
  pub record Inside : Type 0 where
    pub over : count b.lo < count (middle_of b)
    pub under : count (middle_of b) < count b.hi

  pub inside : between_of b (middle_of b) ≡ true → Inside
  unfolding between_of
  inside e =
      let x = middle_of b in
      let t : T (lt b.lo x && lt x b.hi) = holds (lt b.lo x && lt x b.hi) e in
      record {
        over = lt→count b.lo x w.low middle_is_good (and_l (lt b.lo x) (lt x b.hi) t);
        under = lt→count x b.hi middle_is_good w.high (and_r (lt b.lo x) (lt x b.hi) t);
      }

  -- else it is an end
  pub outside : between_of b (middle_of b) ≡ false → on_end b (middle_of b) ≡ true
  unfolding between_of on_end
  outside e = let x = middle_of b in elim (eq-or-lt_of_le (middle_from b.lo b.hi r)) [
    | inl i ↦ is_true (eq x b.lo || eq x b.hi) (or_left (eq x b.lo) (eq x b.hi) (rw (same x b.lo middle_is_good w.low (sym i)) (equals_itself b.lo w.low.above)))
    | inr o ↦ elim (eq-or-lt_of_le (middle_to b.lo b.hi r)) [
      | inl i ↦ is_true (eq x b.lo || eq x b.hi) (or_right (eq x b.lo) (eq x b.hi) (rw (same x b.hi middle_is_good w.high i) (equals_itself b.hi w.high.above)))
      | inr u ↦ clash (holds (lt b.lo x && lt x b.hi) (both_true (lt b.lo x) (lt x b.hi) (count→lt b.lo x w.low middle_is_good o) (count→lt x b.hi middle_is_good w.high u))) e
    ]
  ]

-- what a trial makes of the interval b
pub record Halved (b c : Interval) : Type 0 where
  pub within : Within c.lo c.hi
  pub half_of : 2 * (width c * big) ≤ width b * big + 943 * unit
  pub less : width c * big + 230 * unit ≤ width b * big

module _ (b : Interval) (w : Within b.lo b.hi) (i : Inside b w) where
  g : Good (middle_of b)
  g = middle_is_good b w

  both : (230 * unit ≤ (count (middle_of b) - count b.lo) * big) × (230 * unit ≤ (count b.hi - count (middle_of b)) * big)
  both =
      gaps (count b.lo) (count (middle_of b)) (count b.hi) i.over i.under big unit w.least
      (gap b.lo (middle_of b) w.low.above w.low.held g.above g.held i.over)
      (gap (middle_of b) b.hi g.above g.held w.high.above w.high.held i.under)

  parts : width b * big ≡ (count (middle_of b) - count b.lo) * big + (count b.hi - count (middle_of b)) * big
  parts = whole (count b.lo) (count (middle_of b)) (count b.hi) i.over i.under big

  pub wide : 460 * unit ≤ width b * big
  wide = omega (arith, both.0, both.1, parts)

  near : OneRounding (count (middle_of b)) (count b.lo + count (half ⊗ (b.hi ⊖ b.lo)))
  near = middle_near b.lo b.hi (ranged b.lo b.hi w)

  near_width : OneRounding (count (b.hi ⊖ b.lo)) (count b.hi - count b.lo)
  near_width = width_near b.lo b.hi (ranged b.lo b.hi w)

  near_half : OneRounding (2 * count (half ⊗ (b.hi ⊖ b.lo))) (1 * count (b.hi ⊖ b.lo))
  near_half = half_near b.lo b.hi (ranged b.lo b.hi w)

  width_bound : count (b.hi ⊖ b.lo) ≤ 121 * unit
  width_bound = width_most (count b.hi - count b.lo) (count (b.hi ⊖ b.lo)) unit (omega (arith, w.least, w.most)) (rough (count (b.hi ⊖ b.lo)) (count b.hi - count b.lo) near_width.above)

  half_bound : 2 * count (half ⊗ (b.hi ⊖ b.lo)) ≤ 122 * unit
  half_bound = half_most (count (b.hi ⊖ b.lo)) (count (half ⊗ (b.hi ⊖ b.lo))) unit width_bound (rough (2 * count (half ⊗ (b.hi ⊖ b.lo))) (1 * count (b.hi ⊖ b.lo)) near_half.above)

  lower : Halved b (record { lo = b.lo; hi = middle_of b })
  lower = record {
    within = record { low = w.low; high = g; rises = i.over; least = w.least; most = omega (arith, i.under, w.most) };
    half_of =
        left_half (count b.lo) (count (middle_of b)) (count b.hi) i.over i.under small big (count (b.hi ⊖ b.lo)) (count (half ⊗ (b.hi ⊖ b.lo))) unit small_suc w.most width_bound half_bound
        near_width.above near_half.above near.above;
    less = omega (arith, both.1, parts);
  }

  upper : Halved b (record { lo = middle_of b; hi = b.hi })
  upper = record {
    within = record { low = g; high = w.high; rises = i.under; least = omega (arith, i.over, w.least); most = w.most };
    half_of =
        right_half (count b.lo) (count (middle_of b)) (count b.hi) i.over i.under small big (count (b.hi ⊖ b.lo)) (count (half ⊗ (b.hi ⊖ b.lo))) unit small_suc w.most width_bound half_bound
        near_width.below near_half.below near.below;
    less = omega (arith, both.0, parts);
  }

  pub halved : (d : Float) → Halved b (narrowed_of b (middle_of b) d)
  unfolding narrowed_of
  halved d = go (lt d +0)
    where
      go : (q : Bool) → Halved b (pick q (record { lo = middle_of b; hi = b.hi }) (record { lo = b.lo; hi = middle_of b }))
      go true = upper
      go false = lower
