-- What is promised of `read_list`: its refusals in their order, with their values, what it accepts, the lent memory. Assumes nothing.
use mathlib.Core.Path.{◌≡◌, refl}
use mathlib.Core.Logic.{◌⊎◌, inl, inr}
use mathlib.Core.Bool.{Bool, true, false, ◌||◌}
use mathlib.Core.List.{List}
use Prim.Native.Nat.{ℕ, ◌*◌, ◌^◌, ◌≤◌, ◌<◌}
use native.Mathlib.Omega.{arith}
use borrow.Author.Tests.{le-ltb}
use lib.Dec.{ltb}
use lib.Ieee.{Float}
use lib.ListN.{length}
use Rattle.numerics.specs.Fill.{filled}
use Rattle.gerg_model.specs.MixtureCheck.{check_of}
use Rattle.gerg_refusals.specs.declared.Refusal.TheVariants as refusal
use Rattle.std.proofs.Common.{Err, Result, Ok}
use Rattle.packed_decimal.specs.Record.{component_at, parts_at, wrong_record, fraction_of}
use Rattle.packed_decimal.specs.Records.{offset_of, records, wrong_offset, components_of, parts_of, bad_total}
use Rattle.chromatograph.specs.Lists.{bad_place, bad_list, read_answer, read_of, components_read, parts_read, fractions_read}
use Rattle.gerg_refusals.specs.Answer.{number_of, value_of, memory_of}
use Rattle.chromatograph.specs.Promised.{FirstWrong, SoundList}
use Rattle.chromatograph.proofs.Laws.Decided.{decided, unlike}
use Rattle.chromatograph.proofs.Laws.Known.{row_3_kept, place_at_most}
use Rattle.chromatograph.proofs.Laws.Reading.{enough, few_records}
use Rattle.packed_decimal.proofs.Laws.Total.{total_sound, sound_total}
use Rattle.chromatograph.proofs.Laws.Wrong.{whole_records, right_record, passes, first_wrong, wrong_refuses}
use Rattle.gerg_refusals.specs.declared.Refusal.{Refusal}

module _ (bytes list parts : List ℕ) (fractions : List Float) where
  abbrev answer : Result ℕ Refusal
  answer = read_of bytes list parts fractions

  abbrev n : ℕ
  n = records bytes

  abbrev wrong : Bool
  wrong = ltb (wrong_offset bytes) (length bytes)

  abbrev bad : Bool
  bad = bad_list (components_of bytes)

  abbrev short : Bool
  short = ltb (length list) n || (ltb (length parts) n || ltb (length fractions) n)

  -- the answer by its four tests
  through : (P : Result ℕ Refusal → Type 0) → (wrong ≡ true → P (Err (refusal.Record (wrong_offset bytes)))) → (wrong ≡ false → bad ≡ true → P (Err (refusal.Components (bad_place (components_of bytes)))))
      → (wrong ≡ false → bad ≡ false → bad_total (parts_of bytes) ≡ true → P (Err refusal.Total)) → (wrong ≡ false → bad ≡ false → bad_total (parts_of bytes) ≡ false → short ≡ true → P (Err (refusal.TooShort n)))
      → (wrong ≡ false → bad ≡ false → bad_total (parts_of bytes) ≡ false → short ≡ false → P (Ok n)) → P answer
  unfolding read_answer
  through P = decided P wrong bad (bad_total (parts_of bytes)) short (Err (refusal.Record (wrong_offset bytes))) (Err (refusal.Components (bad_place (components_of bytes)))) (Err refusal.Total) (Err (refusal.TooShort n)) (Ok n)

  -- "Every bad input is refused under a number of its own": 28, 3, 29 or 24; 0 means accepted
  pub read_numbers : (number_of answer ≡ 28) ⊎ ((number_of answer ≡ 3) ⊎ ((number_of answer ≡ 29) ⊎ ((number_of answer ≡ 24) ⊎ (number_of answer ≡ 0))))
  read_numbers =
      through (λ a. (number_of a ≡ 28) ⊎ ((number_of a ≡ 3) ⊎ ((number_of a ≡ 29) ⊎ ((number_of a ≡ 24) ⊎ (number_of a ≡ 0)))))
      (λ a. inl refl) (λ a b. inr (inl refl)) (λ a b c. inr (inr (inl refl))) (λ a b c d. inr (inr (inr (inl refl)))) (λ a b c d. inr (inr (inr (inr refl))))

  -- ---- "28, a wrong kind, a cut record or a digit above 9, value the offset of the first such record"
  pub read_28 : number_of answer ≡ 28 → (k : ℕ) × ((value_of answer ≡ offset_of k) × FirstWrong bytes k)
  read_28 =
      through (λ a. number_of a ≡ 28 → (k : ℕ) × ((value_of a ≡ offset_of k) × FirstWrong bytes k))
      (λ a e. first_wrong bytes a) (λ a b. unlike refl) (λ a b c. unlike refl) (λ a b c d. unlike refl) (λ a b c d. unlike refl)

  -- "tested before row 3": a wrong record anywhere is 28, whatever else is wrong
  pub read_28_first : (k : ℕ) → offset_of k < length bytes → wrong_record bytes (offset_of k) ≡ true → number_of answer ≡ 28
  read_28_first k h e =
      let t = wrong_refuses bytes k h e in
      through (λ a. number_of a ≡ 28) (λ a. refl) (λ a b. both a t) (λ a b c. both a t) (λ a b c d. both a t) (λ a b c d. both a t)
    where
      both : {A : Type 0} {b : Bool} → b ≡ false → b ≡ true → A
      both f t = absurd (let z : ◌≡◌ {A = ℕ} 0 1 = cc in omega arith)

  -- ---- "Component faults keep row 3": its number and value beside any fractions
  pub read_3 : (beside : List Float) → number_of answer ≡ 3 → check_of (components_of bytes) beside ≡ Err (refusal.Components (value_of answer))
  read_3 beside =
      through (λ a. number_of a ≡ 3 → check_of (components_of bytes) beside ≡ Err (refusal.Components (value_of a)))
      (λ a. unlike refl) (λ a b e. row_3_kept (components_of bytes) beside b) (λ a b c. unlike refl) (λ a b c d. unlike refl) (λ a b c d. unlike refl)

  -- ---- 29's value is 0; row 24's the places needed
  pub read_29 : number_of answer ≡ 29 → value_of answer ≡ 0
  read_29 = through (λ a. number_of a ≡ 29 → value_of a ≡ 0) (λ a. unlike refl) (λ a b. unlike refl) (λ a b c e. refl) (λ a b c d. unlike refl) (λ a b c d. unlike refl)

  pub read_24 : number_of answer ≡ 24 → value_of answer ≡ records bytes
  read_24 = through (λ a. number_of a ≡ 24 → value_of a ≡ n) (λ a. unlike refl) (λ a b. unlike refl) (λ a b c. unlike refl) (λ a b c d e. refl) (λ a b c d. unlike refl)

  -- ---- "Everything else is accepted": a sound list with places enough, and no other
  pub read_accepted : number_of answer ≡ 0 → (answer ≡ Ok (records bytes)) × (SoundList bytes × ((records bytes ≤ length list) × (records bytes ≤ length parts) × (records bytes ≤ length fractions)))
  read_accepted =
      through (λ a. number_of a ≡ 0 → (a ≡ Ok n) × (SoundList bytes × ((n ≤ length list) × (n ≤ length parts) × (n ≤ length fractions))))
      (λ a. unlike refl) (λ a b. unlike refl) (λ a b c. unlike refl) (λ a b c d. unlike refl)
      (λ a b c d e. (refl, (record { whole = whole_records bytes a; right = right_record bytes a; known = b; million = total_sound (parts_of bytes) c }, enough n (length list) (length parts) (length fractions) d)))

  pub read_accepts : SoundList bytes → records bytes ≤ length list → records bytes ≤ length parts → records bytes ≤ length fractions → answer ≡ Ok (records bytes)
  unfolding read_answer
  read_accepts s l p f =
      rw (passes bytes s.whole s.right, s.known, sound_total (parts_of bytes) s.million, le-ltb (length list) n l, le-ltb (length parts) n p, le-ltb (length fractions) n f)

  -- ---- "Every row leaves all lent memory as it was"
  pub read_leaves : (number_of answer ≡ 0 → ⊥) → (components_read bytes list parts fractions ≡ list) × ((parts_read bytes list parts fractions ≡ parts) × (fractions_read bytes list parts fractions ≡ fractions))
  unfolding components_read parts_read fractions_read
  read_leaves h = go answer h
    where
      go : (a : Result ℕ Refusal) → (number_of a ≡ 0 → ⊥)
          → (memory_of a list (λ m. filled (λ k. component_at bytes (offset_of k)) m list) ≡ list)
          × ((memory_of a parts (λ m. filled (λ k. parts_at bytes (offset_of k)) m parts) ≡ parts) × (memory_of a fractions (λ m. filled (λ k. fraction_of (parts_at bytes (offset_of k))) m fractions) ≡ fractions))
      go (Ok m) h = absurd (h refl)
      go (Err r) h = (refl, (refl, refl))

  -- and an accepted call writes the front of each list, "those past them stay as lent"
  pub read_writes : number_of answer ≡ 0 → (components_read bytes list parts fractions ≡ filled (λ k. component_at bytes (offset_of k)) (records bytes) list)
      × ((parts_read bytes list parts fractions ≡ filled (λ k. parts_at bytes (offset_of k)) (records bytes) parts)
      × (fractions_read bytes list parts fractions ≡ filled (λ k. fraction_of (parts_at bytes (offset_of k))) (records bytes) fractions))
  unfolding components_read parts_read fractions_read
  read_writes e = let a = (read_accepted e).0 in (rw a, (rw a, rw a))

  -- ---- a value is below 2^32 where the bytes are; an offset past 2^32 alone can be above
  pub read_value : length bytes < 2 ^ 32 → value_of answer < 2 ^ 32
  read_value h =
      through (λ a. value_of a < 2 ^ 32) (λ a. below (first_wrong bytes a)) (λ a b. omega (arith, place_at_most (components_of bytes) b)) (λ a b c. omega arith) (λ a b c d. omega (arith, few_records bytes b)) (λ a b c d. omega arith)
    where
      below : (k : ℕ) × ((wrong_offset bytes ≡ 6 * k) × FirstWrong bytes k) → wrong_offset bytes < 2 ^ 32
      below (k, (e, f)) = let b = f.begins in omega arith
