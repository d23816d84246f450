-- What is promised of `write_list`: its refusals in their order, with their values, what it accepts, the lent memory. Assumes nothing.
use mathlib.Core.Path.{◌≡◌, refl, ap, ◌∙◌}
use mathlib.Core.Logic.{◌⊎◌, inl, inr}
use mathlib.Core.Bool.{Bool, true, false, not}
use mathlib.Core.List.{List, ◌++◌}
use Prim.Native.Nat.{ℕ, ◌^◌, ◌≤◌, ◌<◌}
use native.Mathlib.Omega.{arith}
use borrow.Author.Tests.{eq-eqb, le-ltb, ltb-false}
use lib.Dec.{eqb, ltb}
use lib.Ieee.{Float}
use lib.ListN.{length, drop}
use lib.Seq.{sets}
use Rattle.gerg_model.specs.MixtureCheck.{check_of}
use Rattle.gerg_refusals.specs.declared.Refusal.TheVariants as refusal
use Rattle.std.proofs.Common.{Err, Result, Ok}
use Rattle.packed_decimal.specs.Records.{offset_of, records_of, bad_total}
use Rattle.chromatograph.specs.Lists.{bad_place, bad_list, write_answer, bytes_written}
use Rattle.gerg_refusals.specs.Answer.{number_of, value_of, memory_of}
use Rattle.chromatograph.specs.Promised.{SoundParts}
use Rattle.chromatograph.proofs.Laws.Back.{stored_front}
use Rattle.chromatograph.proofs.Laws.Decided.{decided, unlike}
use Rattle.chromatograph.proofs.Laws.Known.{known, row_3_kept, place_at_most}
use Rattle.packed_decimal.proofs.Laws.Total.{total_sound, sound_total}
use Rattle.chromatograph.proofs.Laws.Writing.{alike, records_bytes}
use Rattle.gerg_refusals.specs.declared.Refusal.{Refusal}

module _ (list parts out : List ℕ) where
  abbrev answer : Result ℕ Refusal
  answer = write_answer list parts (length out)

  abbrev needed : ℕ
  needed = offset_of (length list)

  abbrev unlike_length : Bool
  unlike_length = not (eqb (length parts) (length list))

  abbrev short : Bool
  short = ltb (length out) needed

  -- the answer by its four tests
  through : (P : Result ℕ Refusal → Type 0) → (bad_list list ≡ true → P (Err (refusal.Components (bad_place list)))) → (bad_list list ≡ false → unlike_length ≡ true → P (Err (refusal.Fractions (length list))))
      → (bad_list list ≡ false → unlike_length ≡ false → bad_total parts ≡ true → P (Err refusal.Total)) → (bad_list list ≡ false → unlike_length ≡ false → bad_total parts ≡ false → short ≡ true → P (Err (refusal.TooShort needed)))
      → (bad_list list ≡ false → unlike_length ≡ false → bad_total parts ≡ false → short ≡ false → P (Ok needed)) → P answer
  unfolding write_answer
  through P = decided P (bad_list list) unlike_length (bad_total parts) short (Err (refusal.Components (bad_place list))) (Err (refusal.Fractions (length list))) (Err refusal.Total) (Err (refusal.TooShort needed)) (Ok needed)

  -- "Every bad input is refused under a number of its own": 3, 4, 29 or 24; 0 means accepted
  pub write_numbers : (number_of answer ≡ 3) ⊎ ((number_of answer ≡ 4) ⊎ ((number_of answer ≡ 29) ⊎ ((number_of answer ≡ 24) ⊎ (number_of answer ≡ 0))))
  write_numbers =
      through (λ a. (number_of a ≡ 3) ⊎ ((number_of a ≡ 4) ⊎ ((number_of a ≡ 29) ⊎ ((number_of a ≡ 24) ⊎ (number_of a ≡ 0)))))
      (λ a. inl refl) (λ a b. inr (inl refl)) (λ a b c. inr (inr (inl refl))) (λ a b c d. inr (inr (inr (inl refl)))) (λ a b c d. inr (inr (inr (inr refl))))

  -- ---- "Component faults keep row 3": its number and value beside any fractions
  pub write_3 : (beside : List Float) → number_of answer ≡ 3 → check_of list beside ≡ Err (refusal.Components (value_of answer))
  write_3 beside =
      through (λ a. number_of a ≡ 3 → check_of list beside ≡ Err (refusal.Components (value_of a)))
      (λ a e. row_3_kept list beside a) (λ a b. unlike refl) (λ a b c. unlike refl) (λ a b c d. unlike refl) (λ a b c d. unlike refl)

  -- ---- "lists of unlike length row 4": the length of the component list; 29's value is 0; row 24's the bytes needed
  pub write_4 : number_of answer ≡ 4 → value_of answer ≡ length list
  write_4 = through (λ a. number_of a ≡ 4 → value_of a ≡ length list) (λ a. unlike refl) (λ a b e. refl) (λ a b c. unlike refl) (λ a b c d. unlike refl) (λ a b c d. unlike refl)

  pub write_29 : number_of answer ≡ 29 → value_of answer ≡ 0
  write_29 = through (λ a. number_of a ≡ 29 → value_of a ≡ 0) (λ a. unlike refl) (λ a b. unlike refl) (λ a b c e. refl) (λ a b c d. unlike refl) (λ a b c d. unlike refl)

  pub write_24 : number_of answer ≡ 24 → value_of answer ≡ offset_of (length list)
  write_24 = through (λ a. number_of a ≡ 24 → value_of a ≡ needed) (λ a. unlike refl) (λ a b. unlike refl) (λ a b c. unlike refl) (λ a b c d e. refl) (λ a b c d. unlike refl)

  -- ---- "Everything else is accepted": sound components and parts with bytes enough, and no other
  pub write_accepted : number_of answer ≡ 0 → (answer ≡ Ok (offset_of (length list))) × (SoundParts list parts × (offset_of (length list) ≤ length out))
  write_accepted =
      through (λ a. number_of a ≡ 0 → (a ≡ Ok needed) × (SoundParts list parts × (needed ≤ length out)))
      (λ a. unlike refl) (λ a b. unlike refl) (λ a b c. unlike refl) (λ a b c d. unlike refl)
      (λ a b c d e. (refl, (record { known = a; like = alike parts list b; million = total_sound parts c }, ltb-false (length out) needed d)))

  pub write_accepts : SoundParts list parts → offset_of (length list) ≤ length out → answer ≡ Ok (offset_of (length list))
  unfolding write_answer
  write_accepts s h = rw (s.known, eq-eqb (length parts) (length list) s.like, sound_total parts s.million, le-ltb (length out) needed h)

  -- ---- "Every row leaves all lent memory as it was"
  pub write_leaves : (number_of answer ≡ 0 → ⊥) → bytes_written list parts out ≡ out
  unfolding bytes_written
  write_leaves h = go answer h
    where
      go : (a : Result ℕ Refusal) → (number_of a ≡ 0 → ⊥) → memory_of a out (λ m. sets out 0 (records_of list parts (length list))) ≡ out
      go (Ok m) h = absurd (h refl)
      go (Err r) h = refl

  -- and an accepted call writes the records, "those past them stay as lent"
  pub write_writes : number_of answer ≡ 0 → bytes_written list parts out ≡ records_of list parts (length list) ++ drop (offset_of (length list)) out
  unfolding bytes_written
  write_writes e =
      let a = write_accepted e in
      let r = records_of list parts (length list) in
      let l = records_bytes list parts (length list) in
      rw a.0 (stored_front out r (omega (arith, a.1.1)) ∙ ap (λ (k : ℕ). r ++ drop k out) l)

  -- ---- every value is below 2^32
  pub write_value : value_of answer < 2 ^ 32
  write_value =
      through (λ a. value_of a < 2 ^ 32) (λ a. omega (arith, place_at_most list a)) (λ a b. omega (arith, (known list a).few)) (λ a b c. omega arith) (λ a b c d. omega (arith, (known list a).few)) (λ a b c d. omega arith)
