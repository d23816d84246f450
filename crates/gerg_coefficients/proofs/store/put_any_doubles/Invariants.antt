use mathlib.Core.Path.{◌≡◌}
use lib.Seq.{sets}
use Rattle.gerg_coefficients.specs.Load.{doubles_at}
use Rattle.gerg_coefficients.proofs.store.put_any_doubles.Given as goal

abbrev pub invariant-loop-k : goal.invariant-loop-k
invariant-loop-k l = l.out ≡ sets l.initial.out l.to (doubles_at l.s l.at l.k)
