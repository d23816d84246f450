-- The grid in an array: the sorted front that a point is inserted into, and the grid as it is lent.
use Rattle.std.specs.Prelude.{List, ◌≡◌, ℕ, zero, suc, ◌<◌, ◌≤◌, Float}
use Rattle.std.specs.Float.{nan}
use Rattle.std.specs.Float.Ieee.{lt}
use lib.ListN.{get_or, set, length, take}
use Rattle.numerics.specs.Double.{pick}
use Rattle.gerg_grid.specs.Grid.{grid_of}

-- v goes to place j, or lower: past each element that is above it, which moves up
unfoldable pub insert_from : ℕ → Float → List Float → List Float
insert_from zero v b = set b 0 v
insert_from (suc j) v b = pick (lt v (get_or b j nan)) (insert_from j v (set b (suc j) (get_or b j nan))) (set b (suc j) v)

-- the first `count` of the 386 points are the grid
pub record HoldsGrid (points : List Float) (count : ℕ) : Type 0 where
  pub is : take count points ≡ grid_of
  pub some : 0 < count
  pub most : count ≤ 386
  pub length : lib.ListN.length points ≡ 386
