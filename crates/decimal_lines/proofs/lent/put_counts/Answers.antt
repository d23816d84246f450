-- Each number stores its line, or none.
use Rattle.std.proofs.Common.{◌≡◌, arith, ◌+◌, ◌-◌, get_or}
use Rattle.decimal_lines.proofs.Counts.{none_stored, line_stored_on}
use Rattle.decimal_lines.proofs.Lengths.{count_lines_length}
use Rattle.decimal_lines.proofs.lent.put_counts.Goals as goal
use Rattle.decimal_lines.proofs.lent.put_counts.Goals.{then-number-ge-FIRST, else-number-ge-FIRST}

pub loop-number-init : goal.loop-number-init
loop-number-init c = (omega arith, none_stored _ _ _)

pub put_count-end-requires : goal.put_count-end-requires
put_count-end-requires c =
    let below = count_lines_length (λ k. get_or c.args.counts.now k 0) (c.loop-number.number - 1) in
    omega (arith, below, c.loop-number.invariant.1.1)

pub loop-number-preserved : goal.loop-number-preserved
loop-number-preserved c = (
  omega arith,
  let before = c.loop-number.invariant.1 in
      elim c.if-number-ge-FIRST.branch [
        | then-number-ge-FIRST w ↦
            let call = w.put_count-end.ensures in
            rw (w.out-is, w.end-is) (line_stored_on _ _ _ _ _ _ _ _ w.if-number-ge-FIRST.true before call.stored call.end)
        | else-number-ge-FIRST w ↦
            let still : c.loop-number.number + 1 - 1 ≡ c.loop-number.number - 1 = omega arith in
            rw (w.out-is, w.end-is, still) before
      ],
)

pub returns-clause-within : goal.returns-clause-within
returns-clause-within c =
    let below = count_lines_length (λ k. get_or c.args.counts.now k 0) (c.loop-number.number - 1) in
    omega (arith, below, c.loop-number.invariant.1.1)
