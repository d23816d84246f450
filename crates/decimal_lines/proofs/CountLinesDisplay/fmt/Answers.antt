-- Each number adds its line, or none.
use Rattle.std.proofs.Common.{rules, arith, ap}
use Rattle.std.proofs.Output.{has_written_append, has_written_of_eq, has_written_to_eq}
use Rattle.decimal_lines.specs.Line.{count_lines}
use Rattle.decimal_lines.proofs.Counts.{line_on, no_line_on}
use Rattle.decimal_lines.proofs.CountLinesDisplay.fmt.Goals as goal
use Rattle.decimal_lines.proofs.CountLinesDisplay.fmt.Goals.{then-number-ge-FIRST+then-value-ne0+in_ok-write, else-number-ge-FIRST, else-number-ge-FIRST-via-then-number-ge-FIRST+else-value-ne0, else-number-ge-FIRST-via-else-number-ge-FIRST}

pub loop-number-init : goal.loop-number-init
unfolding count_lines
loop-number-init g c = search rules

pub loop-number-preserved : goal.loop-number-preserved
loop-number-preserved g c = (
  omega arith,
  λ plain.
      let before = c.loop-number.invariant.1 plain in
      elim c.if-number-ge-FIRST.branch [
        | then-number-ge-FIRST+then-value-ne0+in_ok-write w ↦ has_written_of_eq _ _ _ _ _ (line_on _ _ (omega arith) w.if-value-ne0.true) (has_written_append _ _ _ _ _ _ before (search rules))
        | else-number-ge-FIRST w ↦ has_written_to_eq _ _ _ _ _ w.f-is (elim w.else-number-ge-FIRST.branch [
          | else-number-ge-FIRST-via-then-number-ge-FIRST+else-value-ne0 v ↦ has_written_of_eq _ _ _ _ _ (no_line_on _ _ (omega arith) v.if-value-ne0.false) before
          | else-number-ge-FIRST-via-else-number-ge-FIRST v ↦ has_written_of_eq _ _ _ _ _ (ap (count_lines _) (omega arith)) before
        ])
      ],
)

pub returns-clause-writes : goal.returns-clause-writes
returns-clause-writes g c plain ok =
    has_written_of_eq _ _ _ _ _ (ap (count_lines _) (omega arith)) (c.loop-number.invariant.1 plain)
