-- What a coefficient file is answered with, by rows 1 and 2, and its tables.
use Rattle.std.specs.Prelude.{List, Result, Ok, Err, ℕ, ◌+◌, ◌*◌, ◌^◌}
use Rattle.gerg_refusals.specs.declared.Fault.{Fault}
use Rattle.gerg_refusals.specs.declared.Refusal.{Refusal}
use Rattle.gerg_refusals.specs.declared.Refusal.TheVariants as refusal
use Rattle.gerg_refusals.specs.Refusal as of_refusal
use Rattle.gerg_refusals.specs.Answer as of_answer
use Rattle.gerg_tables.specs.declared.Tables.{Tables}
use Rattle.gerg_file.specs.declared.Layout.{Layout}
use Rattle.gerg_file.specs.File.{file_of}
use Rattle.gerg_coefficients.specs.Load.{doubles, integers, loaded, no_tables}
use Rattle.gerg_tables.specs.Check.{fault_of}

-- "refusal number, or 0 if accepted, then the value of the table below, or the file's length"
abbrev pub number_of : Result ℕ Refusal → ℕ
number_of answer = of_answer.number_of answer

abbrev pub value_of : Result ℕ Refusal → ℕ
value_of (Ok length) = length
value_of (Err r) = of_refusal.value_of r

-- the C export: number × 2^32 + value, which is below 2^32
abbrev pub code_of : Result ℕ Refusal → ℕ
code_of answer = number_of answer * 2 ^ 32 + value_of answer

-- row 2
abbrev pub judged : Result (Unit {0}) Fault → ℕ → Result ℕ Refusal
judged (Ok u) length = Ok length
judged (Err fault) length = Err (refusal.Tables fault)

unfoldable pub answer_as : List ℕ → Result Layout Refusal → Result ℕ Refusal
answer_as s file = of_answer.and_then file (λ l. judged (fault_of (doubles s l) (integers s l) l.count) l.length)

-- a file with the bytes s is answered with
unfoldable pub answer_of : List ℕ → Result ℕ Refusal
answer_of s = answer_as s (file_of s)

unfoldable pub tables_as : List ℕ → Result Layout Refusal → Tables
tables_as s (Err r) = no_tables
tables_as s (Ok l) = loaded s l

-- and has the tables
unfoldable pub tables_of : List ℕ → Tables
tables_of s = tables_as s (file_of s)
