-- Rows 1 and 2 refuse by a number at most 2 and a value at most 28,377.
use mathlib.Core.Path.{◌≡◌, refl, ap, ◌∙◌}
use mathlib.Core.List.{List}
use Prim.Native.Nat.{ℕ, ◌^◌, ◌≤◌, ◌<◌}
use native.Mathlib.Omega.{arith}
use Rattle.gerg_file.specs.File.{file_of}
use Rattle.gerg_file.specs.declared.Layout.{Layout}
use Rattle.std.specs.Prelude.{Result, Ok, Err}
use Rattle.gerg_refusals.specs.declared.Refusal.{Refusal}
use Rattle.gerg_refusals.specs.declared.Fault.{Fault}
use Rattle.gerg_refusals.specs.declared.Fault.TheVariants as fault
use Rattle.gerg_refusals.specs.Refusal.{cause_of}
use Rattle.gerg_refusals.specs.Refusal as of_refusal
use Rattle.gerg_refusals.specs.Code as of_code
use Rattle.gerg_refusals.specs.Code.{code}
use Rattle.gerg_file.proofs.Laws.Laid.{laid_out}
use Rattle.gerg_file.proofs.Laws.Standing.{longest}
use Rattle.gerg_file.proofs.Laws.Cut.{malformed_is, malformed_at_most}
use Rattle.gerg_coefficients.specs.Load.{doubles, integers}
use Rattle.gerg_tables.specs.Check.{fault_of}
use Rattle.gerg_coefficients.specs.declared.TableFile.{TableFile}
use Rattle.gerg_coefficients.specs.Answer.{number_of, value_of, code_of, judged, answer_as, answer_of}
use Rattle.gerg_coefficients.specs.TableFile.{table_file_of}
use Rattle.gerg_coefficients.proofs.Cases.{read_answer}

-- ---- the number
judged_number : (checked : Result (Unit {0}) Fault) (length : ℕ) → number_of (judged checked length) ≤ 2
judged_number (Ok u) length = omega arith
judged_number (Err f) length = omega arith

number_as : (bytes : List ℕ) (w : Result Layout Refusal) → file_of bytes ≡ w → number_of (answer_as bytes w) ≤ 2
unfolding answer_as
number_as bytes (Err r) e = rw (malformed_is bytes r e) (omega arith)
number_as bytes (Ok l) e = judged_number (fault_of (doubles bytes l) (integers bytes l) l.count) l.length

pub file_at_most_2 : (bytes : List ℕ) → number_of (answer_of bytes) ≤ 2
unfolding answer_of
file_at_most_2 bytes = number_as bytes (file_of bytes) refl

-- ---- the value
cause_at_most_8 : (f : Fault) → cause_of f ≤ 8
cause_at_most_8 fault.Btij = omega arith
cause_at_most_8 fault.Bvij = omega arith
cause_at_most_8 fault.Gtij = omega arith
cause_at_most_8 fault.Gvij = omega arith
cause_at_most_8 fault.Fij = omega arith
cause_at_most_8 fault.Critical = omega arith
cause_at_most_8 fault.NotPositive = omega arith
cause_at_most_8 fault.Departure = omega arith

judged_at_most : (checked : Result (Unit {0}) Fault) (length : ℕ) → length ≤ 28377 → value_of (judged checked length) ≤ 28377
judged_at_most (Ok u) length h = h
judged_at_most (Err f) length h = let c = cause_at_most_8 f in omega arith

value_as : (bytes : List ℕ) (w : Result Layout Refusal) → file_of bytes ≡ w → value_of (answer_as bytes w) ≤ 28377
unfolding answer_as
value_as bytes (Err r) e = malformed_at_most bytes (of_refusal.value_of r) (e ∙ ap Err (malformed_is bytes r e))
value_as bytes (Ok l) e =
    judged_at_most (fault_of (doubles bytes l) (integers bytes l) l.count) l.length
    (longest bytes l (laid_out bytes l e))

-- an offset, a cause or the length
pub file_value_at_most : (bytes : List ℕ) → value_of (answer_of bytes) ≤ 28377
unfolding answer_of
file_value_at_most bytes = value_as bytes (file_of bytes) refl

-- a value below 2^32 is given whole
code_whole : (a : Result ℕ Refusal) → value_of a < 2 ^ 32 → code a ≡ code_of a
unfolding code of_code.code_of
code_whole (Ok length) h = omega arith
code_whole (Err r) h = omega arith

-- what the export has of its callees' results
pub code_is : (bytes : List ℕ) {r : TableFile} {n : ℕ} → r ≡ table_file_of bytes → n ≡ code r.answer → n ≡ code_of (answer_of bytes)
code_is bytes e n =
    let h = file_value_at_most bytes in
    n ∙ ap code (read_answer bytes e) ∙ code_whole (answer_of bytes) (omega arith)
