-- What the answers of `read_list` say, and what an accepted call leaves. Assumes nothing.
use mathlib.Core.Path.{◌≡◌, sym, ap, ◌∙◌, subst}
use mathlib.Core.Bool.{false, ◌||◌}
use mathlib.Core.List.{List}
use Prim.Native.Nat.{ℕ, ◌≤◌}
use borrow.Author.Tests.{ltb-false}
use lib.Dec.{ltb}
use lib.Ieee.{Float}
use lib.ListN.{length, take, replicate}
use Rattle.numerics.specs.Tests.{or_false}
use Rattle.numerics.specs.Fill.{filled, length_tabulate}
use Rattle.packed_decimal.specs.Record.{component_at, parts_at, fraction_of}
use Rattle.packed_decimal.specs.Records.{offset_of, records, wrong_offset, components_of, parts_of, bad_total}
use Rattle.chromatograph.specs.Lists.{bad_list, read_answer, read_of, components_read, parts_read, fractions_read}
use Rattle.chromatograph.proofs.Laws.Filled.{take_filled}
use Rattle.chromatograph.proofs.Laws.Known.{known}
use Rattle.std.specs.Prelude.{Result, Ok}
use Rattle.gerg_refusals.specs.declared.Refusal.{Refusal}

pub components_length : (bytes : List ℕ) → length (components_of bytes) ≡ records bytes
unfolding components_of
components_length bytes = length_tabulate (λ k. component_at bytes (offset_of k)) (records bytes)

-- row 24 passed: places enough
pub enough : (n a b c : ℕ) → (ltb a n || (ltb b n || ltb c n)) ≡ false → (n ≤ a) × (n ≤ b) × (n ≤ c)
enough n a b c e =
    let p = or_false (ltb a n) (ltb b n || ltb c n) e in
    let q = or_false (ltb b n) (ltb c n) p.1 in
    (ltb-false a n p.0, ltb-false b n q.0, ltb-false c n q.1)

-- 29's test, of the front of an array
pub total_test : (bytes all rest : List ℕ) → all ≡ filled (λ k. parts_at bytes (offset_of k)) (records bytes) rest → bad_total (take (records bytes) all) ≡ bad_total (parts_of bytes)
unfolding parts_of
total_test bytes all rest e = ap bad_total (ap (take (records bytes)) e ∙ take_filled (λ k. parts_at bytes (offset_of k)) (records bytes) rest)

-- of the parts as the code holds them
pub total_held : (bytes all : List ℕ) → all ≡ filled (λ k. parts_at bytes (offset_of k)) (records bytes) (replicate 21 0) → bad_total (take (records bytes) all) ≡ bad_total (parts_of bytes)
total_held bytes all e = total_test bytes all (replicate 21 0) e

-- row 3 passed: at most 21 records
pub few_records : (bytes : List ℕ) → bad_list (components_of bytes) ≡ false → records bytes ≤ 21
few_records bytes e = subst (λ (k : ℕ). k ≤ 21) (components_length bytes) (known (components_of bytes) e).few

-- 28 to 24 passed: the answer, and the three lists that it leaves
module _ (bytes list parts : List ℕ) (fractions : List Float) where
  abbrev n : ℕ
  n = records bytes

  abbrev pub Read : Result ℕ Refusal → List ℕ → List ℕ → List Float → Type 0
  Read a l p f =
      (a ≡ read_of bytes list parts fractions) × ((l ≡ components_read bytes list parts fractions) × ((p ≡ parts_read bytes list parts fractions) × (f ≡ fractions_read bytes list parts fractions)))

  module _ (right : ltb (wrong_offset bytes) (length bytes) ≡ false) (known : bad_list (components_of bytes) ≡ false) (total : bad_total (parts_of bytes) ≡ false) where
    answered : (ltb (length list) n || (ltb (length parts) n || ltb (length fractions) n)) ≡ false → read_of bytes list parts fractions ≡ Ok n
    unfolding read_answer
    answered t = rw (right, known, total, t)

    pub accepted : (l p : List ℕ) (f : List Float) → (ltb (length list) n || (ltb (length parts) n || ltb (length fractions) n)) ≡ false →
        l ≡ filled (λ k. component_at bytes (offset_of k)) n list → p ≡ filled (λ k. parts_at bytes (offset_of k)) n parts → f ≡ filled (λ k. fraction_of (parts_at bytes (offset_of k))) n fractions →
        Read (Ok n) l p f
    unfolding components_read parts_read fractions_read
    accepted l p f t a b c = let e = answered t in (sym e, (a ∙ sym (rw e), (b ∙ sym (rw e), c ∙ sym (rw e))))
