-- The ways through `read_tables`.
use mathlib.Core.Path.{◌≡◌, refl, sym, ap, ◌∙◌}
use mathlib.Core.List.{List}
use Prim.Native.Nat.{ℕ}
use lib.ListN.{replicate}
use lib.Ieee.{Float}
use Rattle.numerics.specs.Double.{+0}
use Rattle.gerg_coefficients.specs.declared.TableFile.{TableFile}
use Rattle.gerg_tables.specs.declared.Tables.{Tables}
use Rattle.std.specs.Prelude.{Result, Ok, Err}
use Rattle.gerg_refusals.specs.declared.Fault.{Fault}
use Rattle.gerg_refusals.specs.declared.Refusal.{Refusal}
use Rattle.gerg_refusals.specs.declared.Refusal.TheVariants as refusal
use Rattle.gerg_file.specs.declared.Layout.{Layout}
use Rattle.gerg_file.specs.File.{file_of}
use Rattle.gerg_coefficients.specs.Load.{doubles, integers, loaded, no_tables}
use Rattle.gerg_tables.specs.Check.{fault_of}
use Rattle.gerg_coefficients.specs.Answer.{judged, answer_as, answer_of, tables_as, tables_of}
use Rattle.gerg_coefficients.specs.TableFile.{table_file_of}

pub accepted : {f : Result (Unit {0}) Fault} (length : ℕ) → f ≡ Ok tt → Ok length ≡ judged f length
accepted length e = ap (λ (f : Result (Unit {0}) Fault). judged f length) (sym e)

pub faulty : (f : Result (Unit {0}) Fault) (length : ℕ) → (f ≡ Ok tt → ⊥) → (fault : Fault) × ((f ≡ Err fault) × (Err (refusal.Tables fault) ≡ judged f length))
faulty (Ok u) length h = absurd (h refl)
faulty (Err fault) length h = (fault, (refl, refl))

pub malformed : (s : List ℕ) {r : Refusal} {w : Result Layout Refusal} → w ≡ file_of s → w ≡ Err r
    → ◌≡◌ {A = TableFile} (record { answer = Err r; tables = record { doubles = replicate 4086 +0; integers = replicate 1631 0 } }) (table_file_of s)
unfolding table_file_of answer_of tables_of answer_as tables_as no_tables
malformed s e q = ap (λ (w : Result Layout Refusal). record { answer = answer_as s w; tables = tables_as s w }) (sym q ∙ e)

pub well_formed : (s : List ℕ) {l : Layout} {w : Result Layout Refusal} {t : Tables} {f : Result (Unit {0}) Fault} {a : Result ℕ Refusal} → w ≡ file_of s → w ≡ Ok l → t ≡ loaded s l
    → f ≡ fault_of t.doubles t.integers l.count → a ≡ judged f l.length
    → ◌≡◌ {A = TableFile} (record { answer = a; tables = t }) (table_file_of s)
unfolding table_file_of answer_of tables_of answer_as tables_as loaded
well_formed s {l} {t = t} e q h g r =
    ap (λ (a : Result ℕ Refusal). record { answer = a; tables = t }) (r ∙ ap (λ (f : Result (Unit {0}) Fault). judged f l.length) g)
    ∙ ap (λ (t : Tables). record { answer = judged (fault_of t.doubles t.integers l.count) l.length; tables = t }) h
    ∙ ap (λ (w : Result Layout Refusal). record { answer = answer_as s w; tables = tables_as s w }) (sym q ∙ e)

pub loaded_is : (s : List ℕ) (l : Layout) {d : List Float} {n : List ℕ} → d ≡ doubles s l → n ≡ integers s l
    → ◌≡◌ {A = Tables} (record { doubles = d; integers = n }) (loaded s l)
unfolding loaded
loaded_is s l e g = rw (e, g)

-- what a caller of `read_tables` has of its result
pub read_answer : (s : List ℕ) {r : TableFile} → r ≡ table_file_of s → r.answer ≡ answer_of s
unfolding table_file_of
read_answer s e = ap (λ (r : TableFile). r.answer) e

pub read_tables_are : (s : List ℕ) {r : TableFile} → r ≡ table_file_of s → r.tables ≡ tables_of s
unfolding table_file_of
read_tables_are s e = ap (λ (r : TableFile). r.tables) e
