-- A file cut to its first 28,378 bytes, one more than the longest file has, is answered as the whole file is, and has its tables.
use mathlib.Core.Path.{◌≡◌, refl, sym, ap, ◌∙◌}
use mathlib.Core.Bool.{Bool, true, false}
use mathlib.Core.List.{List}
use Prim.Native.Nat.{ℕ}
use native.Mathlib.Omega.{arith}
use borrow.Author.Tests.{leb-true, leb-false}
use lib.Dec.{leb}
use lib.ListN.{length, take}
use lib.Seq.{take_all}
use Rattle.gerg_file.specs.File.{file_of}
use Rattle.std.specs.Prelude.{Err}
use Rattle.gerg_refusals.specs.declared.Refusal.TheVariants.{File}
use Rattle.gerg_file.proofs.Laws.Cut.{cut_file}
use Rattle.gerg_coefficients.specs.Answer.{answer_as, answer_of, tables_as, tables_of}

-- what both have where the file is refused at one offset
module _ (s t : List ℕ) (at : ℕ) (e : file_of s ≡ Err (File at)) (f : file_of t ≡ Err (File at)) where
  same_answer : answer_of t ≡ answer_of s
  unfolding answer_of answer_as
  same_answer = ap (answer_as t) f ∙ sym (ap (answer_as s) e)

  same_tables : tables_of t ≡ tables_of s
  unfolding tables_of tables_as
  same_tables = ap (tables_as t) f ∙ sym (ap (tables_as s) e)

cut_by : (bytes : List ℕ) (b : Bool) → leb (length bytes) 28378 ≡ b
    → (answer_of (take 28378 bytes) ≡ answer_of bytes) × (tables_of (take 28378 bytes) ≡ tables_of bytes)
cut_by bytes true h =
    let e = take_all 28378 bytes (leb-true (length bytes) 28378 h) in (ap answer_of e, ap tables_of e)
cut_by bytes false h =
    let l = leb-false (length bytes) 28378 h in
    let c = cut_file bytes (omega arith) in
    (same_answer bytes (take 28378 bytes) c.at c.whole c.cut, same_tables bytes (take 28378 bytes) c.at c.whole c.cut)

pub cut_answer : (bytes : List ℕ) → answer_of (take 28378 bytes) ≡ answer_of bytes
cut_answer bytes = (cut_by bytes (leb (length bytes) 28378) refl).0

pub cut_tables : (bytes : List ℕ) → tables_of (take 28378 bytes) ≡ tables_of bytes
cut_tables bytes = (cut_by bytes (leb (length bytes) 28378) refl).1
