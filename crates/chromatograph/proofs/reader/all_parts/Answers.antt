-- `chromatograph::reader::all_parts` meets its contract. Assumes nothing.
use Rattle.std.proofs.Common.{rules, arith}
use Rattle.packed_decimal.specs.Record.{parts_at}
use Rattle.packed_decimal.specs.Records.{offset_of}
use Rattle.chromatograph.proofs.Laws.Filled.{written_front}
use Rattle.chromatograph.proofs.reader.all_parts.Goals as goal

pub returns : goal.returns
returns c = written_front (λ k. parts_at c.args.bytes.now (offset_of k)) _ _ (omega arith) (c.write_each.ensures (λ k. parts_at c.args.bytes.now (offset_of k)) (λ k x h p. search rules))
