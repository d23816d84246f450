-- The records stored one after the other, and when two lists are alike. Assumes nothing.
use mathlib.Core.Path.{◌≡◌, refl, sym, ap, ◌∙◌}
use mathlib.Core.Bool.{false, not}
use mathlib.Core.List.{List}
use Prim.Native.Nat.{ℕ, suc, ◌+◌, ◌*◌, ◌≤◌, ◌<◌}
use native.Mathlib.Numerals.{add-one}
use native.Mathlib.Omega.{arith}
use borrow.Author.Tests.{eqb-true, not-false}
use lib.Dec.{eqb}
use lib.ListN.{length, get_or, length-append}
use lib.Seq.{sets}
use Rattle.numerics.specs.Fill.{sets_append}
use Rattle.packed_decimal.specs.Record.{record_of}
use Rattle.packed_decimal.specs.Records.{records_of}

-- ---- the records
record_bytes : (component parts : ℕ) → length (record_of component parts) ≡ 6
unfolding record_of
record_bytes component parts = refl

module _ (list parts : List ℕ) where
  pub records_bytes : (n : ℕ) → length (records_of list parts n) ≡ 6 * n
  unfolding records_of
  records_bytes Prim.Native.Nat.zero = refl
  records_bytes (suc n) =
      let r = record_of (get_or list n 0) (get_or parts n 0) in
      length-append (records_of list parts n) r ∙ omega (arith, records_bytes n, record_bytes (get_or list n 0) (get_or parts n 0))

  pub stored_none : (out : List ℕ) → out ≡ sets out 0 (records_of list parts 0)
  unfolding records_of
  stored_none out = refl

  -- one more record, stored behind those before it
  pub stored_next : (out o o' : List ℕ) (n : ℕ) → o ≡ sets out 0 (records_of list parts n) → o' ≡ sets o (6 * n) (record_of (get_or list n 0) (get_or parts n 0)) → o' ≡ sets out 0 (records_of list parts (n + 1))
  unfolding records_of
  stored_next out o o' n e f =
      let r = record_of (get_or list n 0) (get_or parts n 0) in
      let at : 6 * n ≡ 0 + length (records_of list parts n) = omega (arith, records_bytes n) in
      f ∙ ap (λ (l : List ℕ). sets l (6 * n) r) e ∙ ap (λ (k : ℕ). sets (sets out 0 (records_of list parts n)) k r) at ∙ sets_append (records_of list parts n) r out 0
      ∙ ap (λ (k : ℕ). sets out 0 (records_of list parts k)) (sym (add-one n))

pub alike : (parts list : List ℕ) → not (eqb (length parts) (length list)) ≡ false → length parts ≡ length list
alike parts list e = eqb-true (length parts) (length list) (not-false (eqb (length parts) (length list)) e)
