-- What 28 says: by which record it refuses, and what bytes that it passes have. Assumes nothing.
use mathlib.Core.Path.{◌≡◌, refl, sym}
use mathlib.Core.Bool.{Bool, true, false}
use mathlib.Core.List.{List}
use mathlib.Core.Logic.{inl, inr}
use Prim.Native.Nat.{ℕ, zero, suc, ◌+◌, ◌*◌, ◌/◌, ◌≤◌, ◌<◌}
use native.Mathlib.Nat.{eq-or-lt_of_le}
use native.Mathlib.Omega.{arith}
use borrow.Author.Tests.{le-ltb, lt-ltb, ltb-true, ltb-false}
use lib.Dec.{ltb}
use lib.ListN.{length}
use Rattle.gerg_model.specs.MixtureCheck.{first_place}
use Rattle.gerg_model.proofs.Laws.First.{first_is, first_before, first_holds, first_passed, first_at_most}
use Rattle.packed_decimal.specs.Record.{wrong_record}
use Rattle.packed_decimal.specs.Records.{offset_of, begun, records, wrong_offset}
use Rattle.chromatograph.specs.Promised.{FirstWrong}
use Rattle.packed_decimal.proofs.Laws.Record.{not_cut}

-- where the test holds of no place, the first place is past them all
pub none_first : (bad : ℕ → Bool) (n k : ℕ) → ((d : ℕ) → d < n → bad (k + d) ≡ false) → first_place bad n k ≡ k + n
unfolding first_place
none_first bad zero k h = omega arith
none_first bad (suc n) k h =
    let z : k + 0 ≡ k = omega arith in
    let here : bad k ≡ false = rw z at (h 0 (omega arith)) in
    let e : k + suc n ≡ k + 1 + n = omega arith in
    rw (here, e) (none_first bad n (k + 1) (λ d l. let m : k + 1 + d ≡ k + suc d = omega arith in rw m (h (suc d) (omega arith))))

module _ (bytes : List ℕ) where
  abbrev wrong_at : ℕ → Bool
  wrong_at k = wrong_record bytes (offset_of k)

  -- ---- 28 passed: every record that begins is whole and right,
  module _ (right : ltb (wrong_offset bytes) (length bytes) ≡ false) where
    all_passed : (k : ℕ) → k < begun bytes → wrong_record bytes (6 * k) ≡ false
    unfolding wrong_offset
    all_passed k h = let l = ltb-false (wrong_offset bytes) (length bytes) right in first_passed wrong_at (begun bytes) k (omega arith) h

    pub whole_records : length bytes ≡ 6 * records bytes
    whole_records = elim (eq-or-lt_of_le (whole (length bytes))) [ inl e ↦ sym e | inr l ↦ absurd (cut_last l) ]
      where
        whole : (n : ℕ) → 6 * (n / 6) ≤ n
        whole n = omega arith

        cut_last : 6 * records bytes < length bytes → ⊥
        cut_last l = let c = not_cut bytes (6 * records bytes) (all_passed (records bytes) (omega arith)) in omega arith

    pub right_record : (k : ℕ) → k < records bytes → wrong_record bytes (6 * k) ≡ false
    right_record k h = all_passed k (omega arith)

  -- and it passes where they are
  pub passes : length bytes ≡ 6 * records bytes → ((k : ℕ) → k < records bytes → wrong_record bytes (6 * k) ≡ false) → ltb (wrong_offset bytes) (length bytes) ≡ false
  unfolding wrong_offset
  passes e h =
      let n : begun bytes ≡ records bytes = omega arith in
      let f = first_is wrong_at (begun bytes) (begun bytes) (omega arith) (λ d l. h d (omega arith)) (λ l. absurd (omega arith)) in
      le-ltb (wrong_offset bytes) (length bytes) (omega arith)

  -- 28 refuses by the first wrong record, and wherever one is wrong
  pub first_wrong : ltb (wrong_offset bytes) (length bytes) ≡ true → (k : ℕ) × ((wrong_offset bytes ≡ 6 * k) × FirstWrong bytes k)
  unfolding wrong_offset
  first_wrong t =
      let k = first_place wrong_at (begun bytes) 0 in
      let h = ltb-true (wrong_offset bytes) (length bytes) t in
      (k, (refl, record { begins = h; wrong = first_holds wrong_at (begun bytes) (omega arith); before = λ j l. first_before wrong_at (begun bytes) j l }))

  pub wrong_refuses : (k : ℕ) → 6 * k < length bytes → wrong_record bytes (6 * k) ≡ true → ltb (wrong_offset bytes) (length bytes) ≡ true
  unfolding wrong_offset
  wrong_refuses k h e = let l = first_at_most wrong_at (begun bytes) k (omega arith) e in lt-ltb (wrong_offset bytes) (length bytes) (omega arith)
