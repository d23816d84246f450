-- `gerg_grid::grid::insert` meets its contract. The invariant: inserting at j into what is there now gives what the whole insertion gives. Assumes nothing.
use mathlib.Core.Path.{◌≡◌}
use Rattle.gerg_grid.specs.GridArray.{insert_from}
use Rattle.gerg_grid.proofs.grid.insert.Given as goal

abbrev pub invariant-loop-j : goal.invariant-loop-j
invariant-loop-j l = insert_from l.j l.v l.points ≡ insert_from l.n l.v l.initial.points
