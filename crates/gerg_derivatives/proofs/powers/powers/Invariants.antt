-- `gerg_derivatives::powers::powers` meets its contract. The invariant: the first c cells are written. Assumes nothing.
use mathlib.Core.Path.{◌≡◌}
use lib.ListN.{length}
use Rattle.numerics.specs.Fill.{filled}
use Rattle.gerg_derivatives.specs.Powers.{power_cell}
use Rattle.gerg_derivatives.proofs.powers.powers.Given as goal

abbrev pub invariant-loop-c : goal.invariant-loop-c
invariant-loop-c l = (length l.initial.out ≡ 24) × (l.out ≡ filled (power_cell l.delta) l.c l.initial.out)
