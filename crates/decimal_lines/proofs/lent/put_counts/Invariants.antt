-- The lines of the numbers below `number` are stored.
use Rattle.std.proofs.Common.{◌-◌, ◌≤◌, length, get_or}
use Rattle.decimal_lines.proofs.Counts.{Stored}
use Rattle.decimal_lines.proofs.lent.put_counts.Given as goal

abbrev pub invariant-loop-number : goal.invariant-loop-number
invariant-loop-number l =
    (l.number - 1 ≤ length l.counts - 1)
    × Stored (λ k. get_or l.counts k 0) l.at l.initial.out (l.number - 1) l.out l.end
