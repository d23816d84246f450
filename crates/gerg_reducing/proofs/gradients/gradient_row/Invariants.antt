-- `gerg_reducing::gradients::gradient_row` meets its contract. The invariant: what the pairs from i up to j left. Assumes nothing.
use mathlib.Core.Path.{◌≡◌}
use Rattle.numerics.specs.Iterate.{range}
use Rattle.gerg_reducing.specs.Reducing.{row_of, gradient_pair}
use Rattle.gerg_reducing.proofs.gradients.gradient_row.Given as goal

abbrev pub invariant-loop-j : goal.invariant-loop-j
invariant-loop-j l = l.gradient ≡ range (gradient_pair l.doubles l.x (row_of l.reduced) l.i) l.i l.j l.initial.gradient
