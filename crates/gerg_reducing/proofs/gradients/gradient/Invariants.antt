-- `gerg_reducing::gradients::gradient` meets its contract. The invariant: what the first i rows of pairs left. Assumes nothing.
use mathlib.Core.Path.{◌≡◌}
use Rattle.numerics.specs.Iterate.{iter}
use Rattle.gerg_reducing.specs.Reducing.{row_of, gradient_row}
use Rattle.gerg_reducing.proofs.gradients.gradient.Given as goal

abbrev pub invariant-loop-i : goal.invariant-loop-i
invariant-loop-i l = l.h ≡ iter (gradient_row l.doubles l.x (row_of l.reduced)) l.i l.initial.h
