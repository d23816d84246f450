-- The line is written by std's digits.
use Rattle.std.proofs.Common.{arith}
use Rattle.std.proofs.Output.{has_written_of_eq}
use Rattle.decimal_lines.proofs.Digits.{line_is}
use Rattle.decimal_lines.proofs.LineDisplay.fmt.Goals as goal

pub returns-clause-writes : goal.returns-clause-writes
returns-clause-writes g c plain ok =
    has_written_of_eq _ _ _ _ _ (line_is _ _ (omega arith) (omega arith)) (c.writeln.ensures.writes plain ok)
