-- `chromatograph::reader::read_records` meets its contract. Row 3 passed, so the records are at most 21. Assumes nothing.
use native.Mathlib.Omega.{arith}
use mathlib.Core.Path.{sym, ◌∙◌}
use Prim.Native.Nat.{ℕ}
use lib.Seq.{length-take-le}
use Rattle.packed_decimal.specs.Record.{component_at, parts_at, fraction_of}
use Rattle.packed_decimal.specs.Records.{offset_of, records}
use Rattle.chromatograph.proofs.Laws.Filled.{front_at, copied_front, written_front}
use Rattle.std.proofs.Common.{rules, ◌≡◌, ap, ◌++◌, take, drop, get_or, Ok}
use Rattle.chromatograph.proofs.Laws.Reading as laws
use Rattle.chromatograph.proofs.reader.read_records.Goals as goal

pub all_parts-decoded-requires : goal.all_parts-decoded-requires
all_parts-decoded-requires c = let few = laws.few_records _ c.requires.1 in (few, omega arith)

pub slice_bounds-decoded-end : goal.slice_bounds-decoded-end
slice_bounds-decoded-end c = let few = laws.few_records _ c.requires.1 in omega arith

pub slice_bounds-all-end : goal.slice_bounds-all-end
slice_bounds-all-end c = let few = laws.few_records _ c.requires.1 in sym (length-take-le _ _ (omega arith))

pub put_components-requires : goal.put_components-requires
put_components-requires c = let places = length-take-le (records c.args.bytes.now) c.args.list.now (laws.enough _ _ _ _ c.if-list-n.false).0 in omega arith

pub copy_from_slice-requires : goal.copy_from_slice-requires
copy_from_slice-requires c = let few = laws.few_records _ c.requires.1 in length-take-le _ _ (laws.enough _ _ _ _ c.if-list-n.false).1 ∙ sym (length-take-le _ _ (omega arith))

pub returns : goal.returns
returns c =
    let pre = c.requires in
    let all = c.all_parts-decoded.ensures in
    let n : ℕ = records c.args.bytes.now in
    let part : ℕ → ℕ = λ k. parts_at c.args.bytes.now (offset_of k) in
    let fits = laws.enough _ _ _ _ c.if-list-n.false in
    let places = length-take-le n c.args.fractions.now fits.2 in
    let components = written_front (λ k. component_at c.args.bytes.now (offset_of k)) n c.args.list.now fits.0 c.put_components.ensures in
    let fractions = written_front (λ k. fraction_of (part k)) n c.args.fractions.now fits.2 (c.write_each.ensures (λ k. fraction_of (part k)) (λ k x h p. let q : x ≡ fraction_of (get_or (take n c.all_parts-decoded.result) k 0) = search rules in q ∙ ap fraction_of (front_at part n _ _ k 0 all (omega arith)))) in
    let r : laws.Read c.args.bytes.now c.args.list.now c.args.parts.now c.args.fractions.now (Ok n) (c.put_components.new.list ++ drop n c.args.list.now) (c.copy_from_slice.new.self ++ drop n c.args.parts.now) (c.write_each.new.places ++ drop n c.args.fractions.now) =
    laws.accepted c.args.bytes.now c.args.list.now c.args.parts.now c.args.fractions.now pre.0 pre.1 (sym (c.bad_total.ensures ∙ laws.total_held _ _ all) ∙ c.if-bad_total.false) _ _ _ c.if-list-n.false components (copied_front part n _ _ _ _ all c.copy_from_slice.ensures.after) fractions in
    record { answer = r.0; components = r.1.0; parts = r.1.1.0; fractions = r.1.1.1 }
