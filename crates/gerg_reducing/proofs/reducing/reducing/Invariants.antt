-- `gerg_reducing::reducing::reducing` meets its contract. The invariant: what the first i rows of pairs left. Assumes nothing.
use mathlib.Core.Path.{◌≡◌}
use Rattle.numerics.specs.Iterate.{iter}
use Rattle.gerg_reducing.specs.Reducing.{row_of, reducing_row}
use Rattle.gerg_reducing.proofs.reducing.reducing.Given as goal

abbrev pub invariant-loop-i : goal.invariant-loop-i
invariant-loop-i l = l.sum ≡ iter (reducing_row l.doubles l.x (row_of l.reduced)) l.i l.initial.sum
