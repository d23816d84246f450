use mathlib.Core.Path.{◌≡◌}
use lib.Seq.{sets}
use Rattle.gerg_coefficients.specs.Load.{flat, critical_of}
use Rattle.gerg_coefficients.proofs.load.put_critical.Given as goal

abbrev pub invariant-loop-i : goal.invariant-loop-i
invariant-loop-i l = l.doubles ≡ sets l.initial.doubles 0 (flat (critical_of l.s) l.i)
