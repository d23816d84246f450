-- `gerg_grid::grid::grid` meets its contract. The invariant: what is kept of the sorted points so far. Assumes nothing.
use mathlib.Core.List.{[]}
use mathlib.Core.Path.{◌≡◌}
use Prim.Native.Nat.{◌≤◌}
use lib.Ieee.{nan}
use lib.ListN.{length, get_or}
use Rattle.numerics.specs.Iterate.{iter}
use Rattle.gerg_grid.specs.Grid.{sorted_points, kept}
use Rattle.gerg_grid.proofs.grid.grid.Given as goal

abbrev pub invariant-loop-x : goal.invariant-loop-x
invariant-loop-x l = (length l.points.items ≤ l.x-index) × (l.x-items ≡ sorted_points) × (l.points.items ≡ iter (λ i. kept (get_or sorted_points i nan)) l.x-index [])
