-- A loop that writes cells, and what writing makes and keeps of the 939 cells. Assumes nothing.
use mathlib.Core.Bool.{Bool, true, false}
use mathlib.Core.List.{List}
use mathlib.Core.Path.{◌≡◌, refl, ap, ◌∙◌}
use Prim.Native.Nat.{ℕ, zero, suc, ◌+◌, ◌<◌, ◌≤◌}
use native.Mathlib.Nat.{not-suc-le-zero}
use native.Mathlib.Omega.{arith}
use borrow.Author.Tests.{eqb-true, eqb-false}
use lib.Dec.{eqb}
use lib.Ieee.{Float, nan}
use lib.ListN.{get_or, set, length, length-set}
use lib.Seq.{get_or-set_same, get_or-set_other}
use Rattle.numerics.specs.Iterate.{iter, iter_begins, iter_turn}
use Rattle.gerg_isotherm.specs.Isotherm.{written}
use Rattle.gerg_isotherm.specs.Rows.{Row}

-- What a loop that writes asks: where it begins, after a turn, where it ends.
pub written_begins : (f : ℕ → Float) (at : ℕ) (l : List Float) → l ≡ written f at 0 l
unfolding written
written_begins f at l = iter_begins _ l

pub written_turn : (f : ℕ → Float) (at k : ℕ) (l : List Float) {o : List Float} {v : Float} → o ≡ written f at k l → v ≡ f k → set o (at + k) v ≡ written f at (k + 1) l
unfolding written
written_turn f at k l {o} inv e = iter_turn (λ k c. set c (at + k) (f k)) k l inv (ap (λ (w : Float). set o (at + k) w) e)

pub written_done : (f : ℕ → Float) (at k n : ℕ) (l : List Float) {o : List Float} → o ≡ written f at k l → k ≡ n → o ≡ written f at n l
written_done f at k n l inv e = inv ∙ ap (λ (m : ℕ). written f at m l) e

-- the row of n cells at `at` lies before lo, or from hi on
pub data Apart : ℕ → ℕ → ℕ → ℕ → Type 0 where
  below : {at n lo hi : ℕ} → at + n ≤ lo → Apart at n lo hi
  above : {at n lo hi : ℕ} → hi ≤ at → Apart at n lo hi

-- 939 cells, with a row in them
pub record Holds (f : ℕ → Float) (at n : ℕ) (l : List Float) : Type 0 where
  pub size : length l ≡ 939
  pub row : Row f at n l

-- 939 cells
abbrev pub Sized : List Float → Type 0
Sized l = Holds (λ k. nan) 0 0 l

pub sized : {f : ℕ → Float} {at n : ℕ} {l : List Float} → Holds f at n l → Sized l
sized h = record { size = h.size; row = λ k e. absurd (not-suc-le-zero e) }

set_keeps : (f : ℕ → Float) (at n lo hi p : ℕ) (v : Float) (l : List Float) → Apart at n lo hi → lo ≤ p → p < hi → Holds f at n l → Holds f at n (set l p v)
set_keeps f at n lo hi p v l (below a) from to h =
    record { size = length-set l p v ∙ h.size; row = λ k e. get_or-set_other l p (at + k) v nan (λ same. omega arith) ∙ h.row k e }
set_keeps f at n lo hi p v l (above a) from to h =
    record { size = length-set l p v ∙ h.size; row = λ k e. get_or-set_other l p (at + k) v nan (λ same. omega arith) ∙ h.row k e }

module _ (f g : ℕ → Float) (at n lo hi place : ℕ) (l : List Float) (a : Apart at n lo hi) (from : lo ≤ place) (h : Holds f at n l) where
  pub written_keeps : (m : ℕ) → place + m ≤ hi → Holds f at n (written g place m l)
  unfolding written iter
  written_keeps zero to = h
  written_keeps (suc m) to = set_keeps f at n lo hi (place + m) (g m) (written g place m l) a (omega arith) (omega arith) (written_keeps m (omega arith))

module _ (f : ℕ → Float) (at : ℕ) (l : List Float) (h : Sized l) where
  pub written_makes : (n : ℕ) → at + n ≤ 939 → Holds f at n (written f at n l)
  unfolding written iter
  written_makes zero to = record { size = h.size; row = λ k e. absurd (not-suc-le-zero e) }
  written_makes (suc n) to = last (written f at n l) (written_makes n (omega arith))
    where
      last : (w : List Float) → Holds f at n w → Holds f at (suc n) (set w (at + n) (f n))
      last w before = record { size = length-set w (at + n) (f n) ∙ before.size; row = λ k e. here w before k e (eqb k n) refl }
        where
          here : (w : List Float) → Holds f at n w → (k : ℕ) → k < suc n → (b : Bool) → eqb k n ≡ b → get_or (set w (at + n) (f n)) (at + k) nan ≡ f k
          here w before k e true q =
              let same = eqb-true k n q in
              let size = before.size in
              rw same (get_or-set_same w (at + n) (f n) nan (omega arith))
          here w before k e false q =
              let other = eqb-false k n q in
              get_or-set_other w (at + n) (at + k) (f n) nan (λ same. other (omega arith)) ∙ before.row k (apart other)
            where
              apart : (k ≡ n → ⊥) → k < n
              apart other = omega (arith, other)
