-- What the check of the tables leaves where it finds no fault, and when it finds none among the numbers of the pairs. Assumes nothing.
use mathlib.Core.Path.{◌≡◌, refl, ap, ◌∙◌}
use mathlib.Core.Bool.{Bool, true, false, ◌&&◌, ◌||◌}
use mathlib.Core.List.{List}
use Prim.Native.Nat.{ℕ, zero, suc, ◌+◌, ◌-◌, ◌≤◌, ◌<◌}
use native.Mathlib.Omega.{arith}
use borrow.Author.Tests.{lt-ltb, ltb-false, eqb-false}
use lib.Dec.{ltb, eqb}
use lib.Ieee.{Float}
use Rattle.std.proofs.Common.{Result, Ok, Err}
use Rattle.numerics.specs.Tests.{or_false}
use Rattle.gerg_tables.specs.Tables.{m_numb}
use Rattle.gerg_refusals.specs.declared.Fault.{Fault}
use Rattle.gerg_refusals.specs.declared.Fault.TheVariants.{Departure}
use Rattle.gerg_tables.specs.Check.{some, some_from, fault_if, first_of, first, of_number, nonfinite, some_nonfinite, bad_number, some_bad_number, number_fault, component_fault, fault_of}

-- a search that found nothing
none_of : (f : ℕ → Bool) (n a : ℕ) → some f n a ≡ false → (k : ℕ) → k < n → f (a + k) ≡ false
unfolding some
none_of f zero a e k h = absurd (omega arith)
none_of f (suc n) a e zero h = let q : a + 0 ≡ a = omega arith in rw q (or_false (f a) (some f n (a + 1)) e).0
none_of f (suc n) a e (suc k) h =
    let q : a + suc k ≡ a + 1 + k = omega arith in rw q (none_of f n (a + 1) (or_false (f a) (some f n (a + 1)) e).1 k (omega arith))

none_from : (f : ℕ → Bool) (a : ℕ) → some_from f a ≡ false → (j : ℕ) → a ≤ j → j < 21 → f j ≡ false
none_from f a e j h g =
    let q : a + (j - a) ≡ j = omega arith in rw q at (none_of f (21 - a) a e (j - a) (omega arith))

-- no fault
no_else : (a b : Result (Unit {0}) Fault) → first_of a b ≡ Ok tt → b ≡ Ok tt
no_else (Ok u) b e = e
no_else (Err fault) b e = cc

not_where : (b : Bool) (fault : Fault) → fault_if b fault ≡ Ok tt → b ≡ false
not_where true fault e = cc
not_where false fault e = refl

sound_number : (m count : ℕ) → (ltb m 128 && (eqb m 0 || ltb count m)) ≡ false → m < 128 → (0 < m) × (m ≤ count)
sound_number m count e h =
    let q : (eqb m 0 || ltb count m) ≡ false = rw (lt-ltb m 128 h) at e in
    let o = or_false (eqb m 0) (ltb count m) q in
    let z = eqb-false m 0 o.0 in
    (positive m z, ltb-false count m o.1)
  where
    positive : (m : ℕ) → (m ≡ 0 → ⊥) → 0 < m
    positive zero z = absurd (z refl)
    positive (suc m) z = omega arith

-- the numbers of the departure functions
pub sound_numbers : (doubles : List Float) (integers : List ℕ) (count : ℕ) → fault_of doubles integers count ≡ Ok tt → (i j : ℕ) → i < j → j < 21 → m_numb integers i j < 128
    → (0 < m_numb integers i j) × (m_numb integers i j ≤ count)
unfolding fault_of some_bad_number
sound_numbers doubles integers count f i j h g k =
    let none = not_where (some_bad_number integers count) Departure (no_else (first (component_fault doubles) 21 0) _ (no_else (first (number_fault doubles) 5 0) _ f)) in
    let row = none_from (λ i. some_from (bad_number integers count i) (i + 1)) 0 none i (omega arith) (omega arith) in
    let b = none_from (bad_number integers count i) (i + 1) row j (omega arith) g in
    sound_number (m_numb integers i j) count b k

-- ---- finite numbers are no fault
some_none : (f : ℕ → Bool) (n a : ℕ) → ((k : ℕ) → a ≤ k → k < a + n → f k ≡ false) → some f n a ≡ false
unfolding some
some_none f zero a h = refl
some_none f (suc n) a h =
    ap (λ (b : Bool). b || some f n (a + 1)) (h a (omega arith) (omega arith))
    ∙ some_none f n (a + 1) (λ k p q. h k (omega arith) (omega arith))

first_none : (f : ℕ → Result (Unit {0}) Fault) (n i : ℕ) → ((k : ℕ) → k < i + n → f k ≡ Ok tt) → first f n i ≡ Ok tt
unfolding first
first_none f zero i h = refl
first_none f (suc n) i h =
    ap (λ (a : Result (Unit {0}) Fault). first_of a (first f n (i + 1))) (h i (omega arith)) ∙ first_none f n (i + 1) (λ k q. h k (omega arith))

none_nonfinite : (doubles : List Float) (q : ℕ) → ((i j : ℕ) → i ≤ j → j < 21 → nonfinite doubles q i j ≡ false) → some_nonfinite doubles q ≡ false
unfolding some_nonfinite
none_nonfinite doubles q all =
    some_none (λ i. some_from (nonfinite doubles q i) i) 21 0
    (λ i g h. some_none (nonfinite doubles q i) (21 - i) i (λ j k l. all i j k (omega arith)))

pub no_fault : (doubles : List Float) → ((q i j : ℕ) → q < 5 → i ≤ j → j < 21 → nonfinite doubles q i j ≡ false) → first (number_fault doubles) 5 0 ≡ Ok tt
no_fault doubles all =
    first_none (number_fault doubles) 5 0 (λ q h. ap (λ (b : Bool). fault_if b (of_number q)) (none_nonfinite doubles q (λ i j. all q i j (omega arith))))
