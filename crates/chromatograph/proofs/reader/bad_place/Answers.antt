-- `chromatograph::reader::bad_place` meets its contract. Assumes nothing.
use native.Mathlib.Omega.{arith}
use mathlib.Core.Path.{ap, ◌∙◌}
use lib.Seq.{length-take-le}
use Rattle.packed_decimal.specs.Record.{component_at}
use Rattle.packed_decimal.specs.Records.{offset_of, components_of}
use Rattle.chromatograph.specs.Lists.{row_3}
use Rattle.chromatograph.proofs.Laws.Front.{front_row_3}
use Rattle.chromatograph.proofs.reader.bad_place.Goals as goal

pub returns : goal.returns
unfolding components_of
returns c = c.row_3.ensures ∙ ap row_3 c.put_components.ensures ∙ front_row_3 (λ k. component_at c.args.bytes.now (offset_of k)) _ _ (length-take-le _ _ (omega arith) ∙ c.min.ensures)
