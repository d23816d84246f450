-- The doubles are stored one after the other.
use Rattle.std.proofs.Common.{refl, arith}
use Rattle.numerics.specs.Fill.{fill_begins, fill_again, fill_whole}
use Rattle.gerg_coefficients.specs.Load.{doubles_at}
use Rattle.states.proofs.text.read_doubles.Goals as goal

pub loop-k-init : goal.loop-k-init
loop-k-init c = fill_begins _ _

pub loop-k-preserved : goal.loop-k-preserved
loop-k-preserved c = rw c.double_inside.ensures (fill_again _ _ _ c.loop-k.invariant (omega arith))

pub returns : goal.returns
unfolding doubles_at
returns c = fill_whole _ _ _ _ refl c.loop-k.invariant (omega arith)
