-- The grid has at most 386 points. Assumes nothing.
use mathlib.Core.Bool.{Bool, true, false}
use mathlib.Core.List.{List, [], ◌∷◌, ◌++◌}
use Prim.Native.Nat.{◌+◌, ◌≤◌}
use native.Mathlib.Omega.{arith}
use mathlib.Core.Path.{◌≡◌, refl}
use lib.Ieee.{Float, nan, eq}
use lib.ListN.{length, get_or}
use Rattle.numerics.specs.Double.{pick}
use Rattle.numerics.specs.Growing.{iter_grows, one_more, none_more}
use Rattle.gerg_grid.specs.Grid.{sorted_points, same_as_last, kept, grid_of}

pub kept_more : (x : Float) (l : List Float) → length (kept x l) ≤ length l + 1
unfolding kept
kept_more x l = go (same_as_last x l)
  where
    go : (b : Bool) → length (pick b l (l ++ (x ∷ []))) ≤ length l + 1
    go true = none_more (length l)
    go false = one_more l x

pub grid_few : length grid_of ≤ 386
unfolding grid_of
grid_few = iter_grows length (λ k. kept (get_or sorted_points k nan)) [] (λ k l. kept_more (get_or sorted_points k nan) l) 386

-- no point equals the last of none
pub none_last : (x : Float) (l : List Float) → length l ≡ 0 → false ≡ same_as_last x l
unfolding same_as_last eq
none_last x [] h = refl
none_last x (y ∷ l) h = absurd (omega arith)
