-- The line that the program prints, in ASCII.
use Rattle.std.specs.Prelude.{List, Result, ℕ}
use Rattle.decimal_lines.specs.Line.{line_from}
use Rattle.gerg_refusals.specs.declared.Refusal.{Refusal}
use Rattle.gerg_coefficients.specs.Answer.{number_of, value_of}

-- "prints one line: refusal number, or 0 if accepted, then the value of the table below, or the file's length"
abbrev pub line_of : Result ℕ Refusal → List ℕ
line_of answer = line_from (number_of answer) (value_of answer)
