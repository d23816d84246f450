use mathlib.Core.Path.{◌≡◌}
use Prim.Native.Nat.{◌+◌}
use lib.Seq.{sets}
use Rattle.gerg_coefficients.specs.Load.{bytes_at, run_of}
use Rattle.gerg_coefficients.proofs.store.put_byte_records.Given as goal

abbrev pub invariant-loop-k : goal.invariant-loop-k
invariant-loop-k l = l.out ≡ sets l.initial.out l.to (run_of (bytes_at l.s) (l.from + l.kind.bytes) l.kind.size l.k l.per)
