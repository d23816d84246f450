-- Request 01: what the program's standard input says, and what it prints.
use Rattle.std.specs.Prelude.{List, [], ◌++◌, ℕ, ◌+◌, ◌*◌, leb, Float, length, take, drop, Result, Ok, Err}
use Rattle.numerics.specs.Double.{pick}
use Rattle.gerg_file.specs.Bytes.{byte, word}
use Rattle.decimal_lines.specs.Line.{line_from, count_lines, line_text, count_lines_text}
use Rattle.gerg_coefficients.specs.Load.{doubles_at}
use Rattle.gerg_refusals.specs.Refusal.{number_of, value_of}
use Rattle.gerg_refusals.specs.declared.Refusal.{Refusal}
use Rattle.gerg_states.specs.States.{number_at, count_of, run_refusal}
use Rattle.states.specs.declared.report.Counted.{Counted}
use Rattle.states.specs.declared.report.Report.{Report}

-- "the seed (8 bytes)
abbrev pub seed_of : List ℕ → ℕ
seed_of s = word s 0

-- and the number of states (4 bytes), both little-endian,
abbrev pub states_of : List ℕ → ℕ
states_of s = byte s 8 + 256 * (byte s 9 + 256 * (byte s 10 + 256 * byte s 11))

-- a count of components
abbrev pub components_of : List ℕ → ℕ
components_of s = byte s 12

-- and the components (a byte each),
abbrev pub list_of : List ℕ → List ℕ
list_of s = take (components_of s) (drop 13 s)

-- their fractions as doubles,
abbrev pub fractions_of : List ℕ → List Float
fractions_of s = doubles_at s (13 + components_of s) (components_of s)

-- then the file"
abbrev pub file_start : List ℕ → ℕ
file_start s = 13 + 9 * components_of s

abbrev pub file_of : List ℕ → List ℕ
file_of s = drop (file_start s) s

-- "prints seed, space and number of states on one line, then each refusal met with its count, a line each, in number order: number, space, count"; the table's numbers end at 37
unfoldable pub lines_of : ℕ → ℕ → (ℕ → ℕ) → List ℕ
lines_of seed states counts = line_from seed states ++ count_lines counts 37

-- "A refused seed, file or mixture prints its number and value on one line and no more"
abbrev pub told : {A : Type 0} → (A → List ℕ) → Result A Refusal → List ℕ
told lines (Ok a) = lines a
told lines (Err r) = line_from (number_of r) (value_of r)

-- the run of a seed from state 0 on
unfoldable pub report_of : ℕ → ℕ → List ℕ → List Float → List ℕ → List ℕ
report_of seed states list fractions file =
    told (λ passed. lines_of seed states (count_of (number_at file list fractions seed) 0 states)) (run_refusal file list fractions seed)

-- "input cut before the file begins is taken as one with an empty file and a seed of 1"
unfoldable pub text_of : List ℕ → List ℕ
text_of s =
    pick (leb (file_start s) (length s))
    (report_of (seed_of s) (states_of s) (list_of s) (fractions_of s) (file_of s))
    (report_of 1 0 [] [] [])

-- the bytes that the code's counts and its report are printed as
abbrev pub counted_text : Counted → List ℕ
counted_text counted = line_text counted.run ++ count_lines_text counted.counts

abbrev pub answer_text : Result Counted Refusal → List ℕ
answer_text answer = told counted_text answer

abbrev pub report_text : Report → List ℕ
report_text report = answer_text report.answer
