-- The lines of the numbers below `number` are written.
use Rattle.std.proofs.Common.{◌-◌, ◌≤◌, length, get_or}
use Rattle.std.specs.Fmt.{HasWritten, IsPlainFormatter}
use Rattle.decimal_lines.specs.Line.{count_lines}
use Rattle.decimal_lines.proofs.CountLinesDisplay.fmt.Given as goal

abbrev pub invariant-loop-number : goal.invariant-loop-number
invariant-loop-number g l =
    (l.number - 1 ≤ length l.counts - 1)
    × (IsPlainFormatter l.initial.f → HasWritten g.W.Write.write_str_gives l.initial.f (count_lines (λ k. get_or l.counts k 0) (l.number - 1)) l.f)
