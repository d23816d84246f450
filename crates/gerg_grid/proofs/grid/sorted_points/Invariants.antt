-- `gerg_grid::grid::sorted_points` meets its contract. The invariant: the points so far, sorted. Assumes nothing.
use mathlib.Core.List.{[]}
use mathlib.Core.Path.{◌≡◌}
use Rattle.elementary_ln.specs.Ln.{ln_of}
use Rattle.gerg_grid.specs.Grid.{lowest, highest, turned, greatest_first}
use Rattle.numerics.specs.Double.{◌⊘◌}
use Rattle.gerg_grid.proofs.grid.sorted_points.Given as goal

abbrev pub invariant-loop-k : goal.invariant-loop-k
invariant-loop-k l = (l.sorted.items ≡ turned (greatest_first l.k) []) × (l.span ≡ ln_of (highest ⊘ lowest))
