-- Inserting into the sorted front of an array is inserting into the list that it stands for. Assumes nothing.
use mathlib.Core.Bool.{Bool, true, false}
use mathlib.Core.List.{List, [], ◌∷◌, ◌++◌}
use mathlib.Core.Path.{◌≡◌, refl, sym, ap, ◌∙◌}
use Prim.Native.Nat.{ℕ, zero, suc, ◌+◌, ◌-◌, ◌<◌}
use native.Mathlib.Numerals.{add-one}
use native.Mathlib.Omega.{arith}
use lib.Ieee.{Float, nan, lt}
use lib.ListN.{get_or, set, length, take, drop}
use Rattle.std.specs.List.{refill}
use Rattle.std.proofs.Math.Seq.{take-append_seam}
use Rattle.numerics.specs.Double.{pick}
use Rattle.numerics.specs.Iterate.{iter}
use Rattle.gerg_grid.specs.Grid.{point_at, inserted, turned, greatest_first, sorted_points}
use Rattle.gerg_grid.specs.GridArray.{insert_from}

-- what the loop asks, with the code's j - 1: it goes on past an element above v,
pub insert_on : (j : ℕ) (v : Float) (b : List Float) → 0 < j → lt v (get_or b (j - 1) nan) ≡ true → insert_from j v b ≡ insert_from (j - 1) v (set b j (get_or b (j - 1) nan))
unfolding insert_from
insert_on zero v b h e = absurd (omega arith)
insert_on (suc j) v b h e =
    let s : suc j - 1 ≡ j = omega arith in
    rw s (rw (rw s at e))

-- and ends at another
pub insert_here : (j : ℕ) (v : Float) (b : List Float) → 0 < j → lt v (get_or b (j - 1) nan) ≡ false → insert_from j v b ≡ set b j v
unfolding insert_from
insert_here zero v b h e = absurd (omega arith)
insert_here (suc j) v b h e =
    let s : suc j - 1 ≡ j = omega arith in
    rw (rw s at e)

-- or at the front
pub insert_front : (v : Float) (b : List Float) → insert_from 0 v b ≡ set b 0 v
unfolding insert_from
insert_front v b = refl

-- ---- a list turned round before another
get_d_turned : (r zs : List Float) (k : ℕ) → get_or (turned r zs) (length r + k) nan ≡ get_or zs k nan
unfolding turned
get_d_turned [] zs k = ap (λ (n : ℕ). get_or zs n nan) (omega arith)
get_d_turned (x ∷ r) zs k = ap (λ (n : ℕ). get_or (turned r (x ∷ zs)) n nan) (omega arith) ∙ get_d_turned r (x ∷ zs) (suc k)

set_turned : (r zs : List Float) (k : ℕ) (v : Float) → set (turned r zs) (length r + k) v ≡ turned r (set zs k v)
unfolding turned
set_turned [] zs k v = ap (λ (n : ℕ). set zs n v) (omega arith)
set_turned (x ∷ r) zs k v = ap (λ (n : ℕ). set (turned r (x ∷ zs)) n v) (omega arith) ∙ set_turned r (x ∷ zs) (suc k) v

-- inserting into the array is inserting into the list that its front turned round is
pub insert_turned : (r : List Float) (v w : Float) (ys : List Float) → insert_from (length r) v (turned r (w ∷ ys)) ≡ turned (inserted v r) ys
unfolding insert_from turned inserted
insert_turned [] v w ys = refl
insert_turned (x ∷ r) v w ys =
    let at : get_or (turned r (x ∷ w ∷ ys)) (length r) nan ≡ x = ap (λ (n : ℕ). get_or (turned r (x ∷ w ∷ ys)) n nan) (omega arith) ∙ get_d_turned r (x ∷ w ∷ ys) 0 in
    let to : (u : Float) → set (turned r (x ∷ w ∷ ys)) (suc (length r)) u ≡ turned r (x ∷ u ∷ ys) =
    λ u. ap (λ (n : ℕ). set (turned r (x ∷ w ∷ ys)) n u) (omega arith) ∙ set_turned r (x ∷ w ∷ ys) 1 u in
    rw (at, to x, to v) (go (lt v x) (insert_turned r v x (x ∷ ys)))
  where
    go : (b : Bool) → insert_from (length r) v (turned r (x ∷ x ∷ ys)) ≡ turned (inserted v r) (x ∷ ys) → pick b (insert_from (length r) v (turned r (x ∷ x ∷ ys))) (turned r (x ∷ v ∷ ys)) ≡ turned (pick b (x ∷ inserted v r) (v ∷ x ∷ r)) ys
    go true e = e
    go false e = refl

length_inserted : (v : Float) (r : List Float) → length (inserted v r) ≡ suc (length r)
unfolding inserted
length_inserted v [] = refl
length_inserted v (x ∷ r) = go (lt v x) (length_inserted v r)
  where
    go : (b : Bool) → length (inserted v r) ≡ suc (length r) → length (pick b (x ∷ inserted v r) (v ∷ x ∷ r)) ≡ suc (suc (length r))
    go true e = ap suc e
    go false e = refl

pub length_greatest : (n : ℕ) → length (greatest_first n) ≡ n
unfolding greatest_first iter
length_greatest zero = refl
length_greatest (suc n) = length_inserted (point_at n) (greatest_first n) ∙ ap suc (length_greatest n)

-- ---- the loop that inserts the points: l has the first n of them, sorted
pub sorts_begin : [] ≡ turned (greatest_first 0) []
unfolding greatest_first iter turned
sorts_begin = refl

pub length_turned : (l m : List Float) → length (turned l m) ≡ length l + length m
unfolding turned
length_turned [] m = omega arith
length_turned (x ∷ l) m = length_turned l (x ∷ m) ∙ omega arith

pub sorts_length : (n : ℕ) (l : List Float) → l ≡ turned (greatest_first n) [] → length l ≡ n
sorts_length n l e = rw e (omega (arith, length_turned (greatest_first n) [], length_greatest n))

turned_behind : (r ys : List Float) (v : Float) → turned r ys ++ (v ∷ []) ≡ turned r (ys ++ (v ∷ []))
unfolding turned
turned_behind [] ys v = refl
turned_behind (x ∷ r) ys v = turned_behind r (x ∷ ys) v

next : (n : ℕ) → inserted (point_at n) (greatest_first n) ≡ greatest_first (suc n)
unfolding greatest_first iter
next n = refl

-- a point put behind them, then inserted
pub sorts_turn : (n : ℕ) (v : Float) (l l' : List Float) → v ≡ point_at n → l ≡ turned (greatest_first n) [] → l' ≡ insert_from n v (l ++ (v ∷ [])) → l' ≡ turned (greatest_first (n + 1)) []
sorts_turn n v l l' p e f =
    let r = greatest_first n in
    f ∙ ap (λ (z : List Float). insert_from n v (z ++ (v ∷ []))) e ∙ ap (insert_from n v) (turned_behind r [] v) ∙ ap (λ (k : ℕ). insert_from k v (turned r (v ∷ []))) (sym (length_greatest n))
    ∙ insert_turned r v v [] ∙ ap (λ (u : Float). turned (inserted u r) []) p ∙ rw add-one (ap (λ (z : List Float). turned z []) (next n))

-- a slice written back to the vector that lent it
pub refilled : (n : ℕ) (items points : List Float) → length points ≡ n → refill n items points ≡ points
refilled n items points e = ap (λ (k : ℕ). take k (points ++ drop (length points) items)) (sym e) ∙ take-append_seam points (drop (length points) items)

pub sorts_done : (n : ℕ) (l : List Float) → n ≡ 386 → l ≡ turned (greatest_first n) [] → l ≡ sorted_points
unfolding sorted_points
sorts_done n l e f = rw e at f
