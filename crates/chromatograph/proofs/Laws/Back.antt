-- Records read back: the digits of a byte and of eight digits both ways, the bytes of a list of records, and the records of right bytes. Assumes nothing.
use mathlib.Core.Path.{◌≡◌, refl, sym, ap, ap₂, ◌∙◌, subst}
use mathlib.Core.Logic.{⊎_elim}
use mathlib.Core.Bool.{false, not}
use mathlib.Core.List.{List, ◌++◌}
use Prim.Native.Nat.{ℕ, zero, suc, ◌+◌, ◌*◌, ◌/◌, ◌%◌, ◌≤◌, ◌<◌}
use native.Mathlib.Nat.{eq-or-lt_of_le}
use native.Mathlib.Omega.{arith}
use borrow.Author.Tests.{le-ltb, ltb-false, eqb-true, not-false}
use lib.Dec.{eqb, ltb}
use lib.ListN.{length, get_or, drop, get_or-append}
use lib.Seq.{sets, sets-eq, drop_at, get_or-drop, ext_get_or}
use Rattle.numerics.specs.Fill.{tabulate, length_tabulate, get_d_tabulate}
use Rattle.numerics.specs.Tests.{or_false}
use Rattle.packed_decimal.specs.Record.{two_digits, wrong_digits, component_at, parts_at, wrong_record, packed, record_of}
use Rattle.packed_decimal.specs.Records.{records_of}
use Rattle.chromatograph.proofs.Laws.Writing.{records_bytes}

-- ---- one byte
pub packed_right : (v : ℕ) → v < 100 → wrong_digits (packed v) ≡ false
unfolding wrong_digits packed
packed_right v h = rw (le-ltb 9 ((v / 10 * 16 + v % 10) / 16) (omega arith), le-ltb 9 ((v / 10 * 16 + v % 10) % 16) (omega arith))

pub packed_read : (v : ℕ) → v < 100 → two_digits (packed v) ≡ v
unfolding two_digits packed
packed_read v h = omega arith

-- a byte with no digit above 9
record Right (b : ℕ) : Type 0 where
  small : two_digits b < 100
  again : packed (two_digits b) ≡ b

right_digits : (b : ℕ) → wrong_digits b ≡ false → Right b
unfolding wrong_digits two_digits packed
right_digits b e =
    let t = or_false (ltb 9 (b / 16)) (ltb 9 (b % 16)) e in
    let h = ltb-false 9 (b / 16) t.0 in
    let l = ltb-false 9 (b % 16) t.1 in
    record { small = omega arith; again = omega arith }

-- ---- eight digits
joined : (p : ℕ) → p < 100_000_000 → ((p / 1_000_000 % 100 * 100 + p / 10_000 % 100) * 100 + p / 100 % 100) * 100 + p % 100 ≡ p
joined p h =
    let a : p / 10_000 ≡ p / 100 / 100 = omega arith in
    let b : p / 1_000_000 ≡ p / 10_000 / 100 = omega arith in
    whole (p / 100) (p / 10_000) (p / 1_000_000) refl a b
  where
    two : (q r : ℕ) → r ≡ q / 100 → r * 100 + q % 100 ≡ q
    two q r e = omega arith

    whole : (q r s : ℕ) → q ≡ p / 100 → r ≡ q / 100 → s ≡ r / 100 → ((s % 100 * 100 + r % 100) * 100 + q % 100) * 100 + p % 100 ≡ p
    whole q r s e f g =
        let last : s % 100 ≡ s = omega arith in
        rw (last, two r s g, two q r f) (two p q e)

record Split (a b c d p : ℕ) : Type 0 where
  first : p / 1_000_000 % 100 ≡ a
  second : p / 10_000 % 100 ≡ b
  third : p / 100 % 100 ≡ c
  fourth : p % 100 ≡ d

split : (a b c d : ℕ) → a < 100 → b < 100 → c < 100 → d < 100 → Split a b c d (((a * 100 + b) * 100 + c) * 100 + d)
split a b c d h i j k = record { first = omega arith; second = omega arith; third = omega arith; fourth = omega arith }

-- ---- the bytes of a list of records: byte j of record k
module _ (list parts : List ℕ) where
  abbrev record_at : ℕ → List ℕ
  record_at k = record_of (get_or list k 0) (get_or parts k 0)

  past : (xs ys : List ℕ) (n j : ℕ) → length xs ≡ n → get_or (xs ++ ys) (n + j) 0 ≡ get_or ys j 0
  past xs ys n j e = sym (get_or-drop n (xs ++ ys) j 0) ∙ ap (λ (l : List ℕ). get_or l j 0) (drop_at xs ys n e)

  pub byte_of : (n k j : ℕ) → k < n → j < 6 → get_or (records_of list parts n) (6 * k + j) 0 ≡ get_or (record_at k) j 0
  unfolding records_of
  byte_of zero k j h l = absurd (omega arith)
  byte_of (suc n) k j h l =
      let m : k ≤ n = omega arith in
      ⊎_elim
      (λ e. subst (λ (i : ℕ). get_or (records_of list parts n ++ record_at n) (6 * i + j) 0 ≡ get_or (record_at i) j 0) (sym e) (past (records_of list parts n) (record_at n) (6 * n) j (records_bytes list parts n)))
      (λ g. get_or-append (records_of list parts n) (record_at n) 0 (6 * k + j) (omega (arith, records_bytes list parts n)) ∙ byte_of n k j g l)
      (eq-or-lt_of_le m)

  -- what the reader makes of them
  module _ (n k : ℕ) (h : k < n) where
    abbrev bytes : List ℕ
    bytes = records_of list parts n

    abbrev p : ℕ
    p = get_or parts k 0

    at : (j b : ℕ) → j < 6 → get_or (record_at k) j 0 ≡ b → get_or bytes (6 * k + j) 0 ≡ b
    at j b l e = byte_of n k j h l ∙ e

    kind : get_or bytes (6 * k) 0 ≡ 16
    unfolding record_of
    kind = let z : 6 * k + 0 ≡ 6 * k = omega arith in subst (λ (i : ℕ). get_or bytes i 0 ≡ 16) z (at 0 16 (omega arith) refl)

    digits2 : get_or bytes (6 * k + 2) 0 ≡ packed (p / 1_000_000 % 100)
    unfolding record_of
    digits2 = at 2 (packed (p / 1_000_000 % 100)) (omega arith) refl

    digits3 : get_or bytes (6 * k + 3) 0 ≡ packed (p / 10_000 % 100)
    unfolding record_of
    digits3 = at 3 (packed (p / 10_000 % 100)) (omega arith) refl

    digits4 : get_or bytes (6 * k + 4) 0 ≡ packed (p / 100 % 100)
    unfolding record_of
    digits4 = at 4 (packed (p / 100 % 100)) (omega arith) refl

    digits5 : get_or bytes (6 * k + 5) 0 ≡ packed (p % 100)
    unfolding record_of
    digits5 = at 5 (packed (p % 100)) (omega arith) refl

    pub component_back : component_at bytes (6 * k) ≡ get_or list k 0
    unfolding component_at record_of
    component_back = at 1 (get_or list k 0) (omega arith) refl

    pub parts_back : p < 100_000_000 → parts_at bytes (6 * k) ≡ p
    unfolding parts_at
    parts_back l =
        rw (digits2, digits3, digits4, digits5, packed_read (p / 1_000_000 % 100) (omega arith), packed_read (p / 10_000 % 100) (omega arith), packed_read (p / 100 % 100) (omega arith), packed_read (p % 100) (omega arith))
        (joined p l)

    pub record_right : wrong_record bytes (6 * k) ≡ false
    unfolding wrong_record
    record_right =
        rw (le-ltb (length bytes) (6 * k + 6) (omega (arith, records_bytes list parts n)), kind, digits2, digits3, digits4, digits5, packed_right (p / 1_000_000 % 100) (omega arith), packed_right (p / 10_000 % 100) (omega arith), packed_right (p / 100 % 100) (omega arith), packed_right (p % 100) (omega arith))

-- ---- a right record, written again
module _ (bytes : List ℕ) (at : ℕ) (e : wrong_record bytes at ≡ false) where
  abbrev b : ℕ → ℕ
  b j = get_or bytes (at + j) 0

  record Checked : Type 0 where
    kind : get_or bytes at 0 ≡ 16
    r2 : Right (b 2)
    r3 : Right (b 3)
    r4 : Right (b 4)
    r5 : Right (b 5)

  checked : Checked
  unfolding wrong_record
  checked =
      let t0 = or_false (ltb (length bytes) (at + 6)) _ e in
      let t1 = or_false (not (eqb (get_or bytes at 0) 16)) _ t0.1 in
      let t2 = or_false (wrong_digits (b 2)) _ t1.1 in
      let t3 = or_false (wrong_digits (b 3)) _ t2.1 in
      let t4 = or_false (wrong_digits (b 4)) (wrong_digits (b 5)) t3.1 in
      record {
        kind = eqb-true (get_or bytes at 0) 16 (not-false (eqb (get_or bytes at 0) 16) t1.0);
        r2 = right_digits (b 2) t2.0;
        r3 = right_digits (b 3) t3.0;
        r4 = right_digits (b 4) t4.0;
        r5 = right_digits (b 5) t4.1;
      }

  parts_split : Split (two_digits (b 2)) (two_digits (b 3)) (two_digits (b 4)) (two_digits (b 5)) (parts_at bytes at)
  unfolding parts_at
  parts_split = split (two_digits (b 2)) (two_digits (b 3)) (two_digits (b 4)) (two_digits (b 5)) checked.r2.small checked.r3.small checked.r4.small checked.r5.small

  -- byte by byte
  pub again : (j : ℕ) → j < 6 → get_or (record_of (component_at bytes at) (parts_at bytes at)) j 0 ≡ get_or bytes (at + j) 0
  unfolding record_of component_at
  again zero h = let z : at + 0 ≡ at = omega arith in rw z (sym checked.kind)
  again (suc zero) h = refl
  again (suc (suc zero)) h = ap packed parts_split.first ∙ checked.r2.again
  again (suc (suc (suc zero))) h = ap packed parts_split.second ∙ checked.r3.again
  again (suc (suc (suc (suc zero)))) h = ap packed parts_split.third ∙ checked.r4.again
  again (suc (suc (suc (suc (suc zero))))) h = ap packed parts_split.fourth ∙ checked.r5.again
  again (suc (suc (suc (suc (suc (suc j)))))) h = absurd (omega arith)

-- the records of right bytes are the bytes
pub bytes_again : (bytes list parts : List ℕ) (n : ℕ) → length bytes ≡ 6 * n → ((k : ℕ) → k < n → wrong_record bytes (6 * k) ≡ false) →
    ((k : ℕ) → k < n → get_or list k 0 ≡ component_at bytes (6 * k)) → ((k : ℕ) → k < n → get_or parts k 0 ≡ parts_at bytes (6 * k)) → records_of list parts n ≡ bytes
bytes_again bytes list parts n e right c p =
    ext_get_or 0 (records_of list parts n) bytes (records_bytes list parts n ∙ sym e)
    (λ i h.
    let m = records_bytes list parts n in
    let k : i / 6 < n = omega arith in
    let s : 6 * (i / 6) + i % 6 ≡ i = omega arith in
    subst (λ (x : ℕ). get_or (records_of list parts n) x 0 ≡ get_or bytes x 0) s
    (byte_of list parts n (i / 6) (i % 6) k (omega arith) ∙ ap₂ (λ (x y : ℕ). get_or (record_of x y) (i % 6) 0) (c (i / 6) k) (p (i / 6) k) ∙ again bytes (6 * (i / 6)) (right (i / 6) k) (i % 6) (omega arith)))

-- ---- stored from place 0 on, a list is the front of what was lent
pub stored_front : (out vs : List ℕ) → length vs ≤ length out → sets out 0 vs ≡ vs ++ drop (length vs) out
stored_front out vs h = let z : 0 + length vs ≡ length vs = omega arith in sets-eq vs out 0 (omega arith) ∙ ap (λ (k : ℕ). vs ++ drop k out) z

-- the elements of a list by their places
pub by_places : {A : Type 0} (l : List A) (d : A) → tabulate (λ k. get_or l k d) (length l) ≡ l
by_places l d = ext_get_or d (tabulate (λ k. get_or l k d) (length l)) l (length_tabulate (λ k. get_or l k d) (length l)) (λ i h. get_d_tabulate (λ k. get_or l k d) (length l) i d (rw length_tabulate at h))
