-- `chromatograph::reader::put_components` meets its contract. Assumes nothing.
use Rattle.std.proofs.Common.{rules}
use Rattle.packed_decimal.specs.Record.{component_at}
use Rattle.packed_decimal.specs.Records.{offset_of}
use Rattle.chromatograph.proofs.reader.put_components.Goals as goal

pub returns : goal.returns
unfolding component_at
returns c = c.write_each.ensures (λ k. component_at c.args.bytes.now (offset_of k)) (λ k x h p. search rules)
