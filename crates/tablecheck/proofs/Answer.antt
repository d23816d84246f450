-- The line of a file that was read.
use mathlib.Core.Path.{◌≡◌, sym, ap, ◌∙◌}
use mathlib.Core.List.{List}
use Prim.Native.Nat.{ℕ, ◌≤◌}
use Rattle.std.specs.Prelude.{Result, length}
use Rattle.gerg_refusals.specs.declared.Refusal.{Refusal}
use Rattle.gerg_coefficients.specs.declared.TableFile.{TableFile}
use Rattle.decimal_lines.proofs.Lengths.{line_length}
use Rattle.gerg_coefficients.specs.Answer.{answer_of, number_of, value_of}
use Rattle.gerg_coefficients.specs.TableFile.{table_file_of}
use Rattle.gerg_coefficients.proofs.Cases.{read_answer}
use Rattle.tablecheck.specs.Line.{line_of}

pub line_is : (bytes : List ℕ) {r : TableFile} {a : Result ℕ Refusal} → r ≡ table_file_of bytes → r.answer ≡ a → line_of a ≡ line_of (answer_of bytes)
line_is bytes e f = ap line_of (sym f ∙ read_answer bytes e)

-- what the program prints has at most 42 bytes
pub answer_length : (answer : Result ℕ Refusal) → length (line_of answer) ≤ 42
answer_length answer = line_length (number_of answer) (value_of answer)
