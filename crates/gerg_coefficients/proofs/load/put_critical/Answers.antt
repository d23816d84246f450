use mathlib.Core.Path.{◌≡◌, ap, ◌∙◌}
use native.Mathlib.Omega.{arith}
use lib.Seq.{sets}
use Rattle.gerg_coefficients.proofs.Put.{no_critical, critical_on, critical_is}
use Rattle.gerg_coefficients.proofs.load.put_critical.Goals as goal

pub loop-i-init : goal.loop-i-init
loop-i-init c = no_critical _ _

pub loop-i-preserved : goal.loop-i-preserved
loop-i-preserved c = critical_on _ _ _ c.loop-i.invariant (rw (c.double_inside.ensures, c.double_inside-in-loop-i.ensures))

pub returns : goal.returns
returns c = let e : c.loop-i.i ≡ 21 = omega arith in (rw e at c.loop-i.invariant) ∙ ap (sets _ 0) (critical_is _)
