use mathlib.Core.Path.{◌≡◌}
use lib.Seq.{sets}
use Rattle.gerg_coefficients.specs.Load.{bytes_at}
use Rattle.gerg_coefficients.proofs.store.put_bytes.Given as goal

abbrev pub invariant-loop-k : goal.invariant-loop-k
invariant-loop-k l = l.out ≡ sets l.initial.out l.to (bytes_at l.s l.at l.k)
