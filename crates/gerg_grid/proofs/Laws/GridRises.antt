-- The grid's points are densities, and each is greater than the one before. Assumes nothing.
use mathlib.Core.Path.{◌≡◌, refl, sym, ap, ◌∙◌, subst}
use mathlib.Core.Bool.{Bool, true, false, not, false≢true, true≢false}
use mathlib.Core.List.{List, [], ◌∷◌, ◌++◌}
use Prim.Native.Nat.{ℕ, zero, suc, ◌-◌, ◌*◌, ◌^◌, ◌≤◌, ◌<◌}
use native.Mathlib.Nat.{le_trans, le_refl, le_of_lt, lt_of_not-le}
use native.Mathlib.Omega.{arith}
use lib.Dec.{T, ltb, lit≤}
use lib.Ieee.{Float, nan, binary64, fits, lt, le, eq, of_bits, of_int}
use lib.Ieee.Fits.{add-fits, mul-fits}
use lib.Ieee.Positive.{between}
use lib.ListN.{length, get_or, length-append}
use Rattle.std.specs.List.Sorted.{IsPartitionedBy}
use Rattle.numerics.specs.Double.{◌⊖◌, ◌⊗◌, ◌⊘◌, bits, pick}
use Rattle.numerics.specs.Iterate.{iter}
use Rattle.numerics.specs.Tests.{is_true}
use Rattle.elementary_exp.specs.Exp.{exp_of}
use Rattle.elementary_ln.specs.Ln.{ln_of}
use Rattle.numerics.specs.Spacing.{unit, count, Good, lt→count, count→lt, le→count}
use Rattle.gerg_grid.specs.Grid.{lowest, highest, logarithmic_point, even_point, clamped, point_at, inserted, turned, greatest_first, sorted_points, same_as_last, kept, grid_of}
use Rattle.gerg_grid.proofs.Laws.Insertion.{sorts_length}
use Rattle.gerg_grid.proofs.Laws.Rising.{Density, Rising, rising_none, rising_more, last, last_more, strictly, unlike_count}

-- ---- the ends
lowest_density : Density lowest
unfolding of_bits count unit fits
lowest_density = record { good = record { above = tt; held = tt }; least = lit≤ tt; most = lit≤ tt }

highest_density : Density highest
unfolding of_bits count unit fits
highest_density = record { good = record { above = tt; held = tt }; least = lit≤ tt; most = lit≤ tt }

-- ---- a point
clamped_density : (x : Float) → T (fits binary64 x) → Density (clamped x)
unfolding clamped
clamped_density x f = go (le lowest x) (le x highest) refl refl
  where
    go : (a b : Bool) → le lowest x ≡ a → le x highest ≡ b → Density (pick a (pick b x highest) lowest)
    go false b p q = lowest_density
    go true false p q = highest_density
    go true true p q =
        let l : T (le lowest x) = subst T (sym p) tt in
        let h : T (le x highest) = subst T (sym q) tt in
        let g : Good x = record { above = between lowest x highest lowest_density.good.above highest_density.good.above l h; held = f } in
        record { good = g; least = omega (arith, lowest_density.least, le→count lowest x lowest_density.good g l); most = le_trans (le→count x highest g highest_density.good h) highest_density.most }

pub point_density : (k : ℕ) → Density (point_at k)
unfolding point_at logarithmic_point even_point
point_density k = clamped_density (pick (ltb k 129) (logarithmic_point k) (even_point (k - 129))) (go (ltb k 129))
  where
    go : (b : Bool) → T (fits binary64 (pick b (logarithmic_point k) (even_point (k - 129))))
    go true = mul-fits binary64 lowest (exp_of (of_int binary64 (lib.IntN.pos k) ⊘ bits 0x4060_0000_0000_0000 ⊗ ln_of (highest ⊘ lowest)))
    go false = add-fits binary64 lowest (of_int binary64 (lib.IntN.pos (k - 129)) ⊘ bits 0x4070_0000_0000_0000 ⊗ (highest ⊖ lowest))

-- ---- the sorted points: with the greatest first, none above n; turned round, none below n
data Falls : ℕ → List Float → Type 0 where
  none : {n : ℕ} → Falls n []
  more : {n : ℕ} {x : Float} {l : List Float} → Density x → count x ≤ n → Falls (count x) l → Falls n (x ∷ l)

data Climbs : ℕ → List Float → Type 0 where
  none : {n : ℕ} → Climbs n []
  more : {n : ℕ} {x : Float} {l : List Float} → Density x → n ≤ count x → Climbs (count x) l → Climbs n (x ∷ l)

inserted_falls : (n : ℕ) (v : Float) (l : List Float) → Density v → count v ≤ n → Falls n l → Falls n (inserted v l)
unfolding inserted
inserted_falls n v [] d h none = more d h none
inserted_falls n v (x ∷ l) d h (more dx hx r) = go (lt v x) refl (λ k. inserted_falls (count x) v l d k r)
  where
    go : (b : Bool) → lt v x ≡ b → (count v ≤ count x → Falls (count x) (inserted v l)) → Falls n (pick b (x ∷ inserted v l) (v ∷ x ∷ l))
    go true e f = more dx hx (f (le_of_lt (lt→count v x d.good dx.good (subst T (sym e) tt))))
    go false e f = more d h (more dx (not_above e) r)
      where
        not_above : lt v x ≡ false → count x ≤ count v
        not_above e = native.Mathlib.Nat.le_of_suc-le-suc (lt_of_not-le (λ (k : count v < count x). subst T e (count→lt v x d.good dx.good k)))

greatest_falls : (n : ℕ) → Falls (unit * 2 ^ 15) (greatest_first n)
unfolding greatest_first iter
greatest_falls zero = none
greatest_falls (suc n) = inserted_falls (unit * 2 ^ 15) (point_at n) (greatest_first n) (point_density n) (point_density n).most (greatest_falls n)

lower : (m n : ℕ) (l : List Float) → m ≤ n → Climbs n l → Climbs m l
lower m n [] h none = none
lower m n (x ∷ l) h (more d k r) = more d (le_trans h k) r

turned_climbs : (n : ℕ) (l m : List Float) → Falls n l → Climbs n m → Climbs 0 (turned l m)
unfolding turned
turned_climbs n [] m none c = lower 0 n m (omega arith) c
turned_climbs n (x ∷ l) m (more d h r) c = turned_climbs (count x) l (x ∷ m) r (more d (le_refl (count x)) (lower (count x) n m h c))

climbs : (n : ℕ) → Climbs 0 (turned (greatest_first n) [])
climbs n = turned_climbs (unit * 2 ^ 15) (greatest_first n) [] (greatest_falls n) none

sorted_climbs : Climbs 0 sorted_points
unfolding sorted_points
sorted_climbs = climbs 386

pub length_sorted : length sorted_points ≡ 386
unfolding sorted_points
length_sorted = sorts_length 386 (turned (greatest_first 386) []) refl

-- by index
climbs_each : (n : ℕ) (l : List Float) (d : Float) → Climbs n l → (i : ℕ) → i < length l → Density (get_or l i d) × (n ≤ count (get_or l i d))
climbs_each n [] d none i h = absurd (omega arith)
climbs_each n (x ∷ l) d (more a k r) zero h = (a, k)
climbs_each n (x ∷ l) d (more a k r) (suc i) h =
    let e = climbs_each (count x) l d r i (omega arith) in
    (e.0, le_trans k e.1)

climbs_order : (n : ℕ) (l : List Float) (d : Float) → Climbs n l → (i j : ℕ) → i ≤ j → j < length l → count (get_or l i d) ≤ count (get_or l j d)
climbs_order n [] d none i j h k = absurd (omega arith)
climbs_order n (x ∷ l) d (more a b r) zero zero h k = le_refl (count x)
climbs_order n (x ∷ l) d (more a b r) zero (suc j) h k = (climbs_each (count x) l d r j (omega arith)).1
climbs_order n (x ∷ l) d (more a b r) (suc i) zero h k = absurd (omega arith)
climbs_order n (x ∷ l) d (more a b r) (suc i) (suc j) h k = climbs_order (count x) l d r i j (omega arith) (omega arith)

-- v being point k, none of the sorted points that is not above v comes after one that is
pub parted : (n k : ℕ) (v : Float) (s : List Float) → v ≡ point_at k → s ≡ turned (greatest_first n) [] → IsPartitionedBy (λ u. not (lt v u)) s
parted n k v s q f i j d h l p = go (lt v (get_or s i d)) refl
  where
    good : Good v
    good = rw q (point_density k).good

    rises : Climbs 0 s
    rises = rw f (climbs n)

    under : lt v (get_or s i d) ≡ true → lt v (get_or s j d) ≡ true
    under e =
        let x = (climbs_each 0 s d rises i (omega arith)).0.good in
        let y = (climbs_each 0 s d rises j l).0.good in
        is_true (lt v (get_or s j d)) (count→lt v (get_or s j d) good y (le_trans (lt→count v (get_or s i d) good x (subst T (sym e) tt)) (climbs_order 0 s d rises i j h l)))

    go : (b : Bool) → lt v (get_or s i d) ≡ b → not (lt v (get_or s i d)) ≡ true
    go true e = absurd (true≢false (sym p ∙ ap not (under e)))
    go false e = ap not e

-- ---- equals dropped
abbrev kept_of : ℕ → List Float
kept_of k = iter (λ i. kept (get_or sorted_points i nan)) k []

record Strict (k : ℕ) (l : List Float) : Type 0 where
  rises : Rising l
  some : 0 < k → 0 < length l
  upto : (j : ℕ) → k ≤ j → j < 386 → 0 < length l → count (last l) ≤ count (get_or sorted_points j nan)

-- no NaN equals anything
filled : (l : List Float) (x : Float) → eq (last l) x ≡ true → 0 < length l
unfolding eq
filled [] x e = absurd (false≢true e)
filled (y ∷ l) x e = omega arith

strict_step : (k : ℕ) (l : List Float) → k < 386 → Strict k l → Strict (suc k) (kept (get_or sorted_points k nan) l)
unfolding kept same_as_last
strict_step k l h s = go (eq (last l) (get_or sorted_points k nan)) refl
  where
    dense : Density (get_or sorted_points k nan)
    dense = (climbs_each 0 sorted_points nan sorted_climbs k (omega (arith, length_sorted))).0

    go : (b : Bool) → eq (last l) (get_or sorted_points k nan) ≡ b → Strict (suc k) (pick b l (l ++ (get_or sorted_points k nan ∷ [])))
    go true e = record { rises = s.rises; some = λ p. filled l (get_or sorted_points k nan) e; upto = λ j a b c. s.upto j (omega arith) b c }
    go false e = record {
      rises = rising_more l (get_or sorted_points k nan) s.rises dense (λ p. strictly (last l) (get_or sorted_points k nan) (s.upto k (le_refl k) h p) (unlike_count (last l) (get_or sorted_points k nan) (s.rises.each (length l - 1) (omega arith)).good dense.good e));
      some = λ p. omega (arith, length-append l (get_or sorted_points k nan ∷ []));
      upto = λ j a b c. subst (λ (z : Float). count z ≤ count (get_or sorted_points j nan)) (sym (last_more l (get_or sorted_points k nan))) (climbs_order 0 sorted_points nan sorted_climbs k j (omega arith) (omega (arith, length_sorted)));
    }

strict : (k : ℕ) → k ≤ 386 → Strict k (kept_of k)
unfolding iter
strict zero h = record { rises = rising_none; some = λ c. absurd (empty c); upto = λ j a b c. absurd (empty c) }
  where
    empty : 0 < 0 → ⊥
    empty h = omega arith
strict (suc k) h = strict_step k (kept_of k) h (strict k (omega arith))

-- the grid: strictly rising densities
pub grid_rises : Rising grid_of
unfolding grid_of
grid_rises = (strict 386 (le_refl 386)).rises

pub grid_some : 0 < length grid_of
unfolding grid_of
grid_some = (strict 386 (le_refl 386)).some (lit≤ tt)
