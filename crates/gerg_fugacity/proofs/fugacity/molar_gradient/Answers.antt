use Rattle.numerics.specs.Iterate.{iter_begins, iter_turn, iter_done}
use Rattle.gerg_fugacity.specs.Fugacity.{molar_gradient}
use native.Mathlib.Omega.{arith}
use Rattle.gerg_fugacity.proofs.fugacity.molar_gradient.Goals as goal

pub loop-i-init : goal.loop-i-init
loop-i-init c = iter_begins _ _

pub loop-i-preserved : goal.loop-i-preserved
loop-i-preserved c = iter_turn _ _ _ c.loop-i.invariant c.through_reducing.ensures

pub returns : goal.returns
unfolding molar_gradient
returns c = rw (← c.composition-h.ensures) (iter_done _ _ _ _ c.loop-i.invariant (omega arith))
