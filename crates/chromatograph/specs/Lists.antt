-- The calls `read_list` and `write_list`: what they answer, and what they leave in lent memory.
use Rattle.std.specs.Prelude.{Bool, not, ◌||◌, List, ℕ, eqb, ltb, Float, length, Option, Result, Ok, Err}
use Rattle.std.specs.Bool.{then_some}
use Rattle.std.proofs.lemmas.List.Edits.{sets}
use Rattle.numerics.specs.Double.{pick}
use Rattle.numerics.specs.Loop.{filled}
use Rattle.gerg_model.specs.MixtureCheck.{first_place, bad_number}
use Rattle.gerg_refusals.specs.Answer.{memory_of}
use Rattle.packed_decimal.specs.Record.{component_at, parts_at, fraction_of}
use Rattle.packed_decimal.specs.Records.{offset_of, records, wrong_offset, components_of, parts_of, records_of, bad_total}
use Rattle.gerg_refusals.specs.declared.Refusal.{Refusal}
use Rattle.gerg_refusals.specs.declared.Refusal.TheVariants as refusal

-- ---- refusals
-- "Component faults keep row 3": "component list empty, over 21, number unknown or repeated", "first bad place from 0"
unfoldable pub bad_place : List ℕ → ℕ
bad_place list = first_place (bad_number list) (length list) 0

unfoldable pub bad_list : List ℕ → Bool
bad_list list = eqb (length list) 0 || ltb (bad_place list) (length list)

-- row 3's place, if it refuses the list: that of an empty list is 0
unfoldable pub row_3 : List ℕ → Option ℕ
row_3 list = then_some (bad_list list) (bad_place list)

-- `read_list`, where so many places for components, parts and fractions are lent: "28 .. tested before row 3; 29 .. after rows 3 and 4"; "short lent answers row 24 (places .. needed ..), tested last"
unfoldable pub read_answer : List ℕ → ℕ → ℕ → ℕ → Result ℕ Refusal
read_answer bytes components parts fractions =
    pick (ltb (wrong_offset bytes) (length bytes)) (Err (refusal.Record (wrong_offset bytes)))
    (pick (bad_list (components_of bytes)) (Err (refusal.Components (bad_place (components_of bytes))))
    (pick (bad_total (parts_of bytes)) (Err refusal.Total)
    (pick (ltb components (records bytes) || (ltb parts (records bytes) || ltb fractions (records bytes))) (Err (refusal.TooShort (records bytes)))
    (Ok (records bytes)))))

-- `write_list`, where so many bytes are lent: "lists of unlike length row 4"; row 24 with the bytes needed
unfoldable pub write_answer : List ℕ → List ℕ → ℕ → Result ℕ Refusal
write_answer list parts lent =
    pick (bad_list list) (Err (refusal.Components (bad_place list)))
    (pick (not (eqb (length parts) (length list))) (Err (refusal.Fractions (length list)))
    (pick (bad_total parts) (Err refusal.Total)
    (pick (ltb lent (offset_of (length list))) (Err (refusal.TooShort (offset_of (length list))))
    (Ok (offset_of (length list))))))

-- ---- lent memory afterwards: "Every row leaves all lent memory as it was"; "those past them stay as lent"
module _ (bytes list parts : List ℕ) (fractions : List Float) where
  abbrev pub read_of : Result ℕ Refusal
  read_of = read_answer bytes (length list) (length parts) (length fractions)

  unfoldable pub components_read : List ℕ
  components_read = memory_of read_of list (λ n. filled (λ k. component_at bytes (offset_of k)) n list)

  unfoldable pub parts_read : List ℕ
  parts_read = memory_of read_of parts (λ n. filled (λ k. parts_at bytes (offset_of k)) n parts)

  unfoldable pub fractions_read : List Float
  fractions_read = memory_of read_of fractions (λ n. filled (λ k. fraction_of (parts_at bytes (offset_of k))) n fractions)

unfoldable pub bytes_written : List ℕ → List ℕ → List ℕ → List ℕ
bytes_written list parts out = memory_of (write_answer list parts (length out)) out (λ n. sets out 0 (records_of list parts (length list)))
