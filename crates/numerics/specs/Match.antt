-- A `match` on a number that reads a table: the arm for j gives the table's entry j, and the last arm, which knows that the number is none of the keys 0 to k - 1, its entry k. Assumes nothing.
use Rattle.std.specs.Prelude.{◌≡◌, List, ℕ, zero, suc, ◌≤◌, ◌<◌, get_or, Float}
use Rattle.std.proofs.Common.{sym, ap, ◌∙◌, zero-le, le_antisymm, le_of_suc-le-suc, arith}
use Rattle.std.specs.Float.{binary64}
use Rattle.std.specs.Float.Ieee.{of_bits}

abbrev pub Missed : ℕ → ℕ → Type 0
Missed zero j = Unit {0}
Missed (suc k) j = Missed k j × (j ≡ k → ⊥)

further : (k j : ℕ) → k ≤ j → (j ≡ k → ⊥) → suc k ≤ j
further k j h n = omega arith

missed : (k j : ℕ) → Missed k j → k ≤ j
missed zero j m = zero-le
missed (suc k) j m = further k j (missed k j m.0) m.1

-- the entries are of any type
pub arm_of : {A : Type 0} (entry : ℕ → A) (i j : ℕ) (a : A) → i ≡ j → entry j ≡ a → a ≡ entry i
arm_of entry i j a e f = sym f ∙ ap entry (sym e)

pub last_arm_of : {A : Type 0} (entry : ℕ → A) (n i : ℕ) (a : A) → Missed n i → i < suc n → entry n ≡ a → a ≡ entry i
last_arm_of entry n i a h l f = arm_of entry i n a (le_antisymm (le_of_suc-le-suc l) (missed n i h)) f

-- the entries are the doubles of the table's patterns
module _ (table : List ℕ) (entry : ℕ → Float) (is : (i : ℕ) → of_bits binary64 (get_or table i 0) ≡ entry i) where
  at : (j p : ℕ) → get_or table j 0 ≡ p → entry j ≡ of_bits binary64 p
  at j p f = sym (is j) ∙ ap (of_bits binary64) f

  pub arm : (i j p : ℕ) → i ≡ j → get_or table j 0 ≡ p → of_bits binary64 p ≡ entry i
  arm i j p e f = arm_of entry i j (of_bits binary64 p) e (at j p f)

  pub last_arm : (n i p : ℕ) → Missed n i → i < suc n → get_or table n 0 ≡ p → of_bits binary64 p ≡ entry i
  last_arm n i p h l f = last_arm_of entry n i (of_bits binary64 p) h l (at n p f)
