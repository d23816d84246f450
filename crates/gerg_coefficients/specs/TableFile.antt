-- The answer to a file beside its tables, as the reader gives them.
use Rattle.std.specs.Prelude.{List, Result, ℕ, Float}
use Rattle.gerg_refusals.specs.declared.Refusal.{Refusal}
use Rattle.gerg_coefficients.specs.declared.TableFile.{TableFile}
use Rattle.gerg_coefficients.specs.Load.{doubles, integers}
use Rattle.gerg_coefficients.specs.Answer.{answer_of, tables_of}

unfoldable pub table_file_of : List ℕ → TableFile
table_file_of s = record { answer = answer_of s; tables = tables_of s }

-- an answer beside the tables of two lent arrays
abbrev pub table_file : Result ℕ Refusal → List Float → List ℕ → TableFile
table_file answer doubles integers = record { answer = answer; tables = record { doubles = doubles; integers = integers } }
