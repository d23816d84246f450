-- Request 01, "input cut before the file begins is taken as one with an empty file and a seed of 1"; and what the program does not read changes nothing.
-- Assumes nothing.
use mathlib.Core.Path.{◌≡◌, refl, sym, ap, ◌∙◌, fun_ext}
use mathlib.Core.Bool.{Bool, true, false}
use mathlib.Core.List.{List, [], ◌∷◌}
use Prim.Native.Nat.{ℕ, ◌+◌, ◌-◌, ◌*◌, ◌≤◌, ◌<◌}
use native.Mathlib.Omega.{arith}
use borrow.Author.Tests.{ltb-true, ltb-false}
use lib.Dec.{ltb}
use lib.Ieee.{Float}
use lib.ListN.{length, take, drop, length-take}
use lib.Seq.{get_or-take, length-take-le, take-take, take_all, take-add, drop_at}
use Rattle.numerics.specs.Double.{bits}
use Rattle.numerics.specs.Fill.{tabulate_same}
use Rattle.gerg_file.specs.Bytes.{word, double_at}
use Rattle.decimal_lines.specs.Line.{decimal, line_from}
use Rattle.gerg_coefficients.specs.Load.{doubles_at}
use Rattle.std.specs.Prelude.{Result, Err}
use Rattle.gerg_refusals.specs.Answer.{passed, and_then}
use Rattle.gerg_refusals.specs.declared.Refusal.{Refusal}
use Rattle.gerg_refusals.specs.declared.Refusal.TheVariants as refusal
use Rattle.gerg_coefficients.specs.Answer.{answer_of, tables_of}
use Rattle.gerg_coefficients.proofs.Cut.{cut_answer, cut_tables}
use Rattle.gerg_coefficients.proofs.Examples.{empty_file}
use Rattle.gerg_prepared.proofs.Laws.{file_rows}
use Rattle.gerg_prepared.specs.declared.Mixed.{Mixed}
use Rattle.gerg_states.specs.States.{number_at, run_refusal}
use Rattle.gerg_states.proofs.Laws.Numbers.{same_number, same_refusal}
use Rattle.gerg_states.proofs.Promises.{zero_seed_first, then_rows}
use Rattle.states.specs.Text.{components_of, seed_of, states_of, list_of, fractions_of, file_start, file_of, report_of, text_of}
use Rattle.states.proofs.Input.{cut_head, whole_head}

-- ---- "input cut before the file begins": row 1 at 0, whatever the seed's bytes are
empty_refused : run_refusal [] [] [] 1 ≡ Err (refusal.File 0)
empty_refused =
    then_rows [] [] [] 1 (λ e. omega arith) ∙ ap (λ (x : Result Mixed Refusal). and_then x (λ m. passed)) (file_rows [] [] [] (refusal.File 0) empty_file)

-- "1 0"
pub empty_report : report_of 1 0 [] [] [] ≡ 49 ∷ 32 ∷ 48 ∷ 10 ∷ []
unfolding report_of line_from decimal
empty_report = rw empty_refused

pub cut_input : (s : List ℕ) → length s < file_start s → text_of s ≡ 49 ∷ 32 ∷ 48 ∷ 10 ∷ []
cut_input s h = cut_head s h ∙ empty_report

-- the same of an input that is cut after n bytes
cut_by : (s : List ℕ) (n : ℕ) (b : Bool) → ltb 12 n ≡ b → n < file_start s → length (take n s) < file_start (take n s)
cut_by s n true e h =
    let g = get_or-take n s 12 0 (ltb-true 12 n e) in
    let l = length-take n s in
    omega arith
cut_by s n false e h =
    let g = ltb-false 12 n e in
    let l = length-take n s in
    omega arith

pub cut_anywhere : (s : List ℕ) (n : ℕ) → n < file_start s → text_of (take n s) ≡ 49 ∷ 32 ∷ 48 ∷ 10 ∷ []
cut_anywhere s n h = cut_input (take n s) (cut_by s n (ltb 12 n) refl h)

-- ---- "27, a zero seed, tested first": `27 0`, whatever follows
zero_report : (states : ℕ) (list : List ℕ) (fractions : List Float) (file : List ℕ) → report_of 0 states list fractions file ≡ 50 ∷ 55 ∷ 32 ∷ 48 ∷ 10 ∷ []
unfolding report_of line_from decimal
zero_report states list fractions file = rw (zero_seed_first file list fractions)

pub zero_seed : (s : List ℕ) → file_start s ≤ length s → seed_of s ≡ 0 → text_of s ≡ 50 ∷ 55 ∷ 32 ∷ 48 ∷ 10 ∷ []
zero_seed s h e =
    whole_head s h ∙ ap (λ (seed : ℕ). report_of seed (states_of s) (list_of s) (fractions_of s) (file_of s)) e ∙ zero_report _ _ _ _

-- ---- a file cut after 28,378 bytes or more
module _ (file : List ℕ) (m : ℕ) (h : 28378 ≤ m) where
  file_cut : answer_of (take m file) ≡ answer_of file
  file_cut = sym (cut_answer (take m file)) ∙ ap answer_of (take-take 28378 m file h) ∙ cut_answer file

  tables_cut : tables_of (take m file) ≡ tables_of file
  tables_cut = sym (cut_tables (take m file)) ∙ ap tables_of (take-take 28378 m file h) ∙ cut_tables file

  module _ (seed states : ℕ) (list : List ℕ) (fractions : List Float) where
    report_cut : report_of seed states list fractions (take m file) ≡ report_of seed states list fractions file
    unfolding report_of
    report_cut =
        let r = same_refusal (take m file) file list fractions seed file_cut tables_cut in
        let n : number_at (take m file) list fractions seed ≡ number_at file list fractions seed = fun_ext (same_number (take m file) file list fractions seed file_cut tables_cut) in
        rw (r, n)

-- ---- an input cut after 30,686 bytes or more: 13, 9 for each of 255 components, and those of the file
drop_take : (n m : ℕ) (l : List ℕ) → n ≤ length l → drop n (take (n + m) l) ≡ take m (drop n l)
drop_take n m l h = ap (drop n) (take-add n m l) ∙ drop_at (take n l) (take m (drop n l)) n (length-take-le n l h)

module _ (s : List ℕ) (n : ℕ) (small : components_of s < 256) (h : 30686 ≤ n) (long : n < length s) where
  word_cut : (at : ℕ) → at + 8 ≤ n → word (take n s) at ≡ word s at
  word_cut at l =
      cc (
        get_or-take n s at 0 (omega arith),
        get_or-take n s (at + 1) 0 (omega arith),
        get_or-take n s (at + 2) 0 (omega arith),
        get_or-take n s (at + 3) 0 (omega arith),
        get_or-take n s (at + 4) 0 (omega arith),
        get_or-take n s (at + 5) 0 (omega arith),
        get_or-take n s (at + 6) 0 (omega arith),
        get_or-take n s (at + 7) 0 (omega arith),
      )

  components_cut : components_of (take n s) ≡ components_of s
  components_cut = get_or-take n s 12 0 (omega arith)

  states_cut : states_of (take n s) ≡ states_of s
  states_cut =
      cc
      (get_or-take n s 8 0 (omega arith), get_or-take n s 9 0 (omega arith), get_or-take n s 10 0 (omega arith), get_or-take n s 11 0 (omega arith))

  -- a part of the input that begins at `from`, with a list of bytes that is in it
  part_cut : (from : ℕ) → from ≤ n → drop from (take n s) ≡ take (n - from) (drop from s)
  part_cut from l =
      let e : from + (n - from) ≡ n = omega arith in
      ap (λ (k : ℕ). drop from (take k s)) (sym e) ∙ drop_take from (n - from) s (omega arith)

  list_cut : list_of (take n s) ≡ list_of s
  list_cut =
      ap (λ (k : ℕ). take k (drop 13 (take n s))) components_cut
      ∙ ap (take (components_of s)) (part_cut 13 (omega arith))
      ∙ take-take (components_of s) (n - 13) (drop 13 s) (omega arith)

  doubles_cut : (at count : ℕ) → at + 8 * count ≤ n → doubles_at (take n s) at count ≡ doubles_at s at count
  unfolding doubles_at double_at
  doubles_cut at count l = tabulate_same _ _ count (λ k m. ap bits (word_cut (at + 8 * k) (omega arith)))

  fractions_cut : fractions_of (take n s) ≡ fractions_of s
  fractions_cut =
      ap (λ (k : ℕ). doubles_at (take n s) (13 + k) k) components_cut ∙ doubles_cut (13 + components_of s) (components_of s) (omega arith)

  file_part : file_of (take n s) ≡ take (n - file_start s) (file_of s)
  file_part = ap (λ (k : ℕ). drop (13 + 9 * k) (take n s)) components_cut ∙ part_cut (file_start s) (omega arith)

  long_text : text_of (take n s) ≡ text_of s
  long_text =
      let l = length-take-le n s (omega arith) in
      let c = components_cut in
      let a = word_cut 0 (omega arith) in
      let b = states_cut in
      let d = list_cut in
      let f = fractions_cut in
      let g = file_part in
      let r = report_cut (file_of s) (n - file_start s) (omega arith) (seed_of s) (states_of s) (list_of s) (fractions_of s) in
      let whole = whole_head (take n s) (omega arith) in
      let same :
      report_of (seed_of (take n s)) (states_of (take n s)) (list_of (take n s)) (fractions_of (take n s)) (file_of (take n s))
      ≡ report_of (seed_of s) (states_of s) (list_of s) (fractions_of s) (take (n - file_start s) (file_of s)) = cc in
      whole ∙ same ∙ r ∙ sym (whole_head s (omega arith))

text_by : (s : List ℕ) (n : ℕ) (b : Bool) → ltb n (length s) ≡ b → components_of s < 256 → 30686 ≤ n → text_of (take n s) ≡ text_of s
text_by s n true e small h = long_text s n small h (ltb-true n (length s) e)
text_by s n false e small h = ap text_of (take_all n s (ltb-false n (length s) e))

pub cut_text : (s : List ℕ) (n : ℕ) → components_of s < 256 → 30686 ≤ n → text_of (take n s) ≡ text_of s
cut_text s n small h = text_by s n (ltb n (length s)) refl small h
