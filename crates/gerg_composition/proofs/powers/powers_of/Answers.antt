use Rattle.numerics.specs.Fill.{fill_again}
use native.Mathlib.Omega.{arith}
use Rattle.gerg_composition.proofs.powers.powers_of.Goals as goal

pub loop-q-preserved : goal.loop-q-preserved
loop-q-preserved c = (c.loop-q.invariant.0, rw (c.from.ensures, c.powi_byte.ensures) (fill_again _ _ _ c.loop-q.invariant.1 (omega arith)))
