use mathlib.Core.Path.{◌≡◌}
use Rattle.gerg_coefficients.proofs.Put.{no_doubles, double_on}
use native.Mathlib.Omega.{arith}
use Rattle.gerg_coefficients.proofs.store.put_any_doubles.Goals as goal

pub loop-k-init : goal.loop-k-init
loop-k-init c = no_doubles _ _ _ _

pub loop-k-preserved : goal.loop-k-preserved
loop-k-preserved c = double_on _ _ _ _ _ c.loop-k.invariant c.double_inside.ensures

pub returns : goal.returns
returns c = let e : c.loop-k.k ≡ c.args.n = omega arith in rw e at c.loop-k.invariant
