-- `gerg_fugacity::fugacity::molar_gradient` meets its contract. The invariant: what the first i components left. Assumes nothing.
use mathlib.Core.Path.{◌≡◌}
use Rattle.numerics.specs.Iterate.{iter}
use Rattle.gerg_fugacity.specs.Fugacity.{through_reducing}
use Rattle.gerg_fugacity.proofs.fugacity.molar_gradient.Given as goal

abbrev pub invariant-loop-i : goal.invariant-loop-i
invariant-loop-i l = l.h ≡ iter (through_reducing l.mixture.model.now l.mixture.gradients.now l.a) l.i l.initial.h
