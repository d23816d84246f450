-- `chromatograph::writer::put_records` meets its contract. The invariant: the first k records are stored. Assumes nothing.
use mathlib.Core.Path.{◌≡◌}
use lib.ListN.{length}
use lib.Seq.{sets}
use Rattle.packed_decimal.specs.Records.{records_of}
use Rattle.chromatograph.proofs.writer.put_records.Given as goal

abbrev pub invariant-loop-k : goal.invariant-loop-k
invariant-loop-k l = l.out ≡ sets l.initial.out 0 (records_of l.list l.parts (length l.yielded))
