-- The two numbers' digits, the space and the line feed make the line.
use Rattle.decimal_lines.proofs.Digits.{line_stored}
use Rattle.decimal_lines.proofs.lent.put_line.Goals as goal

pub returns : goal.returns
returns c =
    let first = c.put_decimal-space.ensures in
    let second = c.put_decimal-end.ensures in
    let s = line_stored _ _ _ _ _ _ _ _ first.stored first.end second.stored second.end in
    record { stored = s.0; end = s.1.0; within = s.1.1 }
