-- Rows of records stored one after the other into an array of zeros.
use mathlib.Core.Path.{◌≡◌, refl, sym, ap, ◌∙◌}
use mathlib.Core.Bool.{Bool, true, false, ◌&&◌, cond}
use mathlib.Core.List.{List, ◌++◌, append-nil, append_assoc}
use Prim.Native.Nat.{ℕ, zero, suc, ◌+◌, ◌-◌, ◌*◌, ◌≤◌, ◌<◌}
use native.Mathlib.Numerals.{add-one}
use native.Mathlib.Nat.{mul-add, mul-suc, mul-le-mul_left}
use native.Mathlib.Omega.{arith}
use borrow.Author.Tests.{le-leb, lt-leb, le-ltb, lt-ltb}
use lib.Dec.{leb, ltb}
use lib.ListN.{length, replicate, length-append, length-replicate}
use lib.Seq.{sets}
use Rattle.gerg_file.specs.Counts.{sum}
use Rattle.gerg_file.proofs.Places.{sum_grows}
use Rattle.gerg_file.proofs.Laws.Laid.{sum_within}
use Rattle.gerg_coefficients.specs.Load.{flat, run_of, Records, place, present, row_of}
use Rattle.gerg_coefficients.specs.Filling.{padded}
use Rattle.gerg_coefficients.proofs.Padded.{padded_zeros, stored_on}
use Rattle.gerg_coefficients.proofs.Put.{length_flat}

pub sum_none : (f : ℕ → ℕ) → 0 ≡ sum f 0
unfolding sum
sum_none f = refl

pub sum_on : (f : ℕ → ℕ) (n : ℕ) → sum f n + f n ≡ sum f (n + 1)
unfolding sum
sum_on f n = rw (add-one n)

-- the records of row i of n, where each row follows the one before
pub row_room : (f : ℕ → ℕ) (size from at i n end : ℕ) {count : ℕ} → i < n → count ≡ f i → at ≡ from + size * sum f i → from + size * sum f n ≤ end → at + size * count ≤ end
row_room f size from at i n end h e p l = let g = sum_within f i n h in omega (arith, mul-le-mul_left size g, mul-add size (sum f i) (f i), ap (λ (m : ℕ). size * m) e)

-- which records the file has
and_false : (b : Bool) → (b && false) ≡ false
and_false true = refl
and_false false = refl

before_first : (r : Records) (k : ℕ) → k < r.first → present r k ≡ false
before_first r k h = ap (λ (b : Bool). b && ltb k r.end) (lt-leb _ _ h)

from_first : (r : Records) (k : ℕ) → r.first ≤ k → k < r.end → present r k ≡ true
from_first r k h g = ap (λ (b : Bool). b && ltb k r.end) (le-leb _ _ h) ∙ lt-ltb _ _ g

from_end : (r : Records) (k : ℕ) → r.end ≤ k → present r k ≡ false
from_end r k h = ap (λ (b : Bool). leb r.first k && b) (le-ltb _ _ h) ∙ and_false (leb r.first k)

-- two runs of parts as one
flat_add : {A : Type 0} (f g : ℕ → List A) (i k : ℕ) → ((j : ℕ) → j < k → f (i + j) ≡ g j) → flat f (i + k) ≡ flat f i ++ flat g k
unfolding flat
flat_add f g i zero e = ap (flat f) (let q : i + 0 ≡ i = omega arith in q) ∙ sym (append-nil (flat f i))
flat_add f g i (suc k) e =
    ap (flat f) (let q : i + suc k ≡ suc (i + k) = omega arith in q)
    ∙ ap (λ (a : List _). a ++ f (i + k)) (flat_add f g i k (λ j h. e j (omega arith)))
    ∙ ap (λ (a : List _). flat f i ++ flat g k ++ a) (e k (omega arith))
    ∙ append_assoc (flat f i) (flat g k) (g k)

-- the parts of a row in an array of n entries, zeros past them
module _ {A : Type 0} (n : ℕ) (z : A) (f : ℕ → List A) (w : ℕ) (all : (k : ℕ) → length (f k) ≡ w) (a : List A) where
  length_with : (i : ℕ) → length (a ++ flat f i) ≡ length a + w * i
  length_with i = length-append a (flat f i) ∙ ap (λ (m : ℕ). length a + m) (length_flat f w all i)

  -- parts that are zeros stand there already
  skipped : (i k : ℕ) → ((j : ℕ) → i ≤ j → j < i + k → f j ≡ replicate w z) → length a + w * (i + k) ≤ n
      → padded n z (a ++ flat f i) ≡ padded n z (a ++ flat f (i + k))
  unfolding flat
  skipped i zero e h = ap (λ (m : ℕ). padded n z (a ++ flat f m)) (let q : i ≡ i + 0 = omega arith in q)
  skipped i (suc k) e h =
      let q : i + suc k ≡ suc (i + k) = omega arith in
      let m = mul-suc w (i + k) in
      let fits : length a + w * suc (i + k) ≤ n = rw q at h in
      let l = length_with (i + k) in
      skipped i k (λ j x y. e j x (omega arith)) (omega arith)
      ∙ padded_zeros n z (a ++ flat f (i + k)) w (omega arith)
      ∙ ap (λ (b : List A). padded n z (a ++ flat f (i + k) ++ b)) (sym (e (i + k) (omega arith) (omega arith)))
      ∙ ap (padded n z) (append_assoc a (flat f (i + k)) (f (i + k)))
      ∙ ap (λ (m : ℕ). padded n z (a ++ flat f m)) (sym q)

  -- k parts are stored, from part `first` on, of `count`; the others are zeros
  parts_on : (g : ℕ → List A) (first k count to : ℕ) {o o' : List A} → ((j : ℕ) → j < first → f j ≡ replicate w z) → ((j : ℕ) → j < k → f (first + j) ≡ g j)
      → ((j : ℕ) → first + k ≤ j → f j ≡ replicate w z) → first + k ≤ count → length a ≡ to → to + w * count ≤ n → o ≡ padded n z a
      → o' ≡ sets o (to + w * first) (flat g k) → o' ≡ padded n z (a ++ flat f count)
  unfolding flat
  parts_on g first k count to {o} low here high h la fits i t =
      let c = mul-le-mul_left w h in
      let m = mul-add w first k in
      let z₁ : padded n z a ≡ padded n z (a ++ flat f first) =
      ap (padded n z) (sym (append-nil a))
      ∙ skipped 0 first (λ j x y. low j (omega arith)) (let q : 0 + first ≡ first = omega arith in rw q (omega arith))
      ∙ ap (λ (m : ℕ). padded n z (a ++ flat f m)) (let q : 0 + first ≡ first = omega arith in q) in
      let lg : length (flat f first ++ flat g k) ≡ w * (first + k) = ap length (sym (flat_add f g first k here)) ∙ length_flat f w all (first + k) in
      let lh = length-append (flat f first) (flat g k) in
      let lf = length_flat f w all first in
      let la₁ : length (a ++ flat f first) ≡ to + w * first = length_with first ∙ ap (λ (m : ℕ). m + w * first) la in
      stored_on n z (a ++ flat f first) (flat g k) (to + w * first) la₁ (omega arith) (i ∙ z₁) t
      ∙ ap (padded n z) (append_assoc a (flat f first) (flat g k))
      ∙ ap (λ (b : List A). padded n z (a ++ b)) (sym (flat_add f g first k here))
      ∙ skipped (first + k) (count - (first + k)) (λ j x y. high j x)
      (let q : first + k + (count - (first + k)) ≡ count = omega arith in rw q (omega arith))
      ∙ ap (λ (m : ℕ). padded n z (a ++ flat f m)) (let q : first + k + (count - (first + k)) ≡ count = omega arith in q)

-- the numbers of a row of records
module _ {A : Type 0} (z : A) (numbers : ℕ → ℕ → List A) (sized : (at n : ℕ) → length (numbers at n) ≡ n) where
  length_cond : (b : Bool) (at per : ℕ) → length (cond b (numbers at per) (replicate per z)) ≡ per
  length_cond true at per = sized at per
  length_cond false at per = length-replicate per z

  module _ (r : Records) (offset count per : ℕ) where
    pub length_part : (k : ℕ) → length (cond (present r k) (numbers (place r offset k) per) (replicate per z)) ≡ per
    length_part k = length_cond (present r k) (place r offset k) per

    pub length_row : length (row_of z numbers r offset count per) ≡ per * count
    unfolding row_of
    length_row = length_flat _ per length_part count

    absent : (k : ℕ) → present r k ≡ false → cond (present r k) (numbers (place r offset k) per) (replicate per z) ≡ replicate per z
    absent k e = ap (λ (b : Bool). cond b (numbers (place r offset k) per) (replicate per z)) e

    there : (at k : ℕ) → at ≡ place r offset r.first → r.first + k < r.end
        → cond (present r (r.first + k)) (numbers (place r offset (r.first + k)) per) (replicate per z) ≡ numbers (at + r.size * k) per
    there at k p h =
        ap (λ (b : Bool). cond b (numbers (place r offset (r.first + k)) per) (replicate per z)) (from_first r (r.first + k) (omega arith) h)
        ∙ ap (λ (q : ℕ). numbers q per)
        (let x = mul-add r.size r.before r.first in
        let y = mul-add r.size r.before (r.first + k) in
        let v = mul-add r.size r.first k in
        let q : place r offset (r.first + k) ≡ at + r.size * k = omega arith in q)

    pub row_on : (n to to' at k : ℕ) (a : List A) {o o' : List A} → r.first ≤ r.end → r.end ≤ count → length a ≡ to → to + per * count ≤ n
        → at ≡ place r offset r.first → to' ≡ to + per * r.first → k ≡ r.end - r.first → o ≡ padded n z a
        → o' ≡ sets o to' (run_of numbers at r.size k per) → o' ≡ padded n z (a ++ row_of z numbers r offset count per)
    unfolding row_of run_of
    row_on n to to' at k a {o} h₁ h₂ la fits p q m i t =
        parts_on n z (λ k. cond (present r k) (numbers (place r offset k) per) (replicate per z)) per length_part a
        (λ j. numbers (at + r.size * j) per) r.first k count to
        (λ j x. absent j (before_first r j x))
        (λ j x. there at j p (omega arith))
        (λ j x. absent j (from_end r j (omega arith)))
        (omega arith) la fits i
        (t ∙ ap (λ (x : ℕ). sets o x (flat (λ j. numbers (at + r.size * j) per) k)) q)

-- one row more
pub rows_on : {A : Type 0} (n : ℕ) (z : A) (f : ℕ → List A) (i : ℕ) (a : List A) {o : List A} → o ≡ padded n z (a ++ flat f i ++ f i)
    → o ≡ padded n z (a ++ flat f (i + 1))
unfolding flat
rows_on n z f i a e = rw (add-one i) (e ∙ ap (padded n z) (append_assoc a (flat f i) (f i)))

pub rows_none : {A : Type 0} (n : ℕ) (z : A) (f : ℕ → List A) (a : List A) {o : List A} → o ≡ padded n z a → o ≡ padded n z (a ++ flat f 0)
unfolding flat
rows_none n z f a e = e ∙ ap (padded n z) (sym (append-nil a))

pub length_rows_on : {A : Type 0} (f : ℕ → List A) (w i : ℕ) (a : List A) (to : ℕ) → ((k : ℕ) → length (f k) ≡ w) → length a ≡ to → length (a ++ flat f i) ≡ to + w * i
length_rows_on f w i a to all e = length-append a (flat f i) ∙ ap (λ (m : ℕ). length a + m) (length_flat f w all i) ∙ ap (λ (m : ℕ). m + w * i) e

-- row i of a section, of which each row has `count` records with `per` numbers
module _ {A : Type 0} (n : ℕ) (z : A) (numbers : ℕ → ℕ → List A) (sized : (at n : ℕ) → length (numbers at n) ≡ n) (f : ℕ → Records) (offset count per start : ℕ) where
  pub section_on : (i to at k : ℕ) (r : Records) (a : List A) {o o' : List A} → r ≡ f i → r.first ≤ r.end → r.end ≤ count → length a ≡ start
      → start + per * count * i + per * count ≤ n → at ≡ place r offset r.first → to ≡ start + per * count * i + per * r.first → k ≡ r.end - r.first
      → o ≡ padded n z (a ++ flat (λ i. row_of z numbers (f i) offset count per) i) → o' ≡ sets o to (run_of numbers at r.size k per)
      → o' ≡ padded n z (a ++ flat (λ i. row_of z numbers (f i) offset count per) (i + 1))
  section_on i to at k r a e h₁ h₂ la fits p q m inv t =
      let rows : ℕ → List A = λ i. row_of z numbers (f i) offset count per in
      rows_on n z rows i a
      (row_on z numbers sized r offset count per n (start + per * count * i) to at k (a ++ flat rows i) h₁ h₂
      (length_rows_on rows (per * count) i a start (λ k. length_row z numbers sized (f k) offset count per) la) fits p q m inv t
      ∙ ap (λ (r : Records). padded n z (a ++ flat rows i ++ row_of z numbers r offset count per)) e)

-- the pairs before row i, but for one of each row
all_before : sum (λ h. 20 - h) 21 ≡ 210
unfolding sum
all_before = refl

pub pairs_before : (i : ℕ) → i ≤ 21 → sum (λ h. 20 - h) i ≤ 210
pairs_before i h = let a = sum_grows (λ h. 20 - h) i 21 h in let b = all_before in omega arith
