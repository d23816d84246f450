-- The line is that of the file that was read.
use mathlib.Core.Path.{ap, ◌∙◌}
use Rattle.decimal_lines.specs.Line.{line_text}
use Rattle.tablecheck.proofs.Answer.{line_is}
use Rattle.tablecheck.proofs.line.line.Goals as goal

pub returns-in-Ok : goal.returns-in-Ok
returns-in-Ok c = line_is _ c.read_tables.ensures c.in-Ok.is

pub returns-in-Err : goal.returns-in-Err
returns-in-Err c = ap line_text c.from.ensures ∙ line_is _ c.read_tables.ensures c.in-Err.is
