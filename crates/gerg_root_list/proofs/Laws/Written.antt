-- What an accepted call has written, by index. Assumes nothing.
use mathlib.Core.Path.{◌≡◌, refl, sym, ap, ◌∙◌}
use mathlib.Core.Logic.{inl, inr}
use mathlib.Core.Bool.{Bool, true, false}
use mathlib.Core.List.{List, [], ◌∷◌}
use Prim.Native.Nat.{ℕ, zero, suc, ◌+◌, ◌*◌, ◌≤◌, ◌<◌}
use native.Mathlib.Nat.{eq-or-lt_of_le, mul-le-mul_right, le_of_suc-le-suc}
use native.Mathlib.Omega.{arith}
use borrow.Author.Tests.{eqb-false, ltb-false}
use lib.Dec.{eqb, ltb}
use lib.Ieee.{Float, nan}
use lib.ListN.{length, get_or}
use lib.Seq.{get_or-set_same, get_or-set_other}
use Rattle.std.specs.Prelude.{Result, Ok, Err}
use Rattle.numerics.specs.Double.{pick}
use Rattle.numerics.specs.Iterate.{iter}
use Rattle.gerg_refusals.specs.Answer.{number_of}
use Rattle.gerg_refusals.specs.declared.Refusal.{Refusal}
use Rattle.gerg_refusals.specs.declared.Refusal.TheVariants as refusal
use Rattle.gerg_reducing.specs.declared.GergModel.{GergModel}
use Rattle.gerg_root_list.specs.RootList.{Kept, no_root, roots_in, needed, number_at, root_written, roots_written, answer_of, memory_by}
use Rattle.gerg_root_list.specs.declared.Root.{Root}
use Rattle.gerg_root_list.proofs.Laws.Answering.{length_root, length_roots}
use Rattle.gerg_root_list.proofs.Laws.RootList.{root_list}

-- ---- one root's numbers
written_at : (root : Root) (m at : ℕ) (l : List Float) (j : ℕ) → j < m → at + m ≤ length l → get_or (root_written root m at l) (at + j) nan ≡ number_at root j
unfolding root_written iter
written_at root zero at l j k f = absurd (omega arith)
written_at root (suc m) at l j k f = elim (eq-or-lt_of_le {n = j} {m = m} (le_of_suc-le-suc k)) [
  | inl e ↦ rw e (get_or-set_same (root_written root m at l) (at + m) (number_at root m) nan (omega (arith, length_root root m at l)))
  | inr i ↦ get_or-set_other (root_written root m at l) (at + m) (at + j) (number_at root m) nan (λ e. apart at j m i e) ∙ written_at root m at l j i (omega arith)
]
  where
    apart : (at j m : ℕ) → j < m → at + j ≡ at + m → ⊥
    apart at j m i e = omega arith

-- what stands before it stays
stays_below : (root : Root) (m at : ℕ) (l : List Float) (i : ℕ) → i < at → get_or (root_written root m at l) i nan ≡ get_or l i nan
unfolding root_written iter
stays_below root zero at l i k = refl
stays_below root (suc m) at l i k = get_or-set_other (root_written root m at l) (at + m) i (number_at root m) nan (λ e. apart at i m k e) ∙ stays_below root m at l i k
  where
    apart : (at i m : ℕ) → i < at → i ≡ at + m → ⊥
    apart at i m k e = omega arith

-- and what stands behind it
stays_above : (root : Root) (m at : ℕ) (l : List Float) (i : ℕ) → at + m ≤ i → get_or (root_written root m at l) i nan ≡ get_or l i nan
unfolding root_written iter
stays_above root zero at l i k = refl
stays_above root (suc m) at l i k = get_or-set_other (root_written root m at l) (at + m) i (number_at root m) nan (λ e. apart at i m k e) ∙ stays_above root m at l i (omega arith)
  where
    apart : (at i m : ℕ) → at + suc m ≤ i → i ≡ at + m → ⊥
    apart at i m k e = omega arith

-- "doubles of a lent answer past those needed stay as lent, for roots too"
pub roots_past : (roots : List Root) (m n : ℕ) (l : List Float) (i : ℕ) → n * m ≤ i → get_or (roots_written roots m n l) i nan ≡ get_or l i nan
unfolding roots_written iter
roots_past roots m zero l i k = refl
roots_past roots m (suc n) l i k = stays_above (get_or roots n no_root) m (n * m) (roots_written roots m n l) i (omega arith) ∙ roots_past roots m n l i (omega arith)

-- ---- number j of root k stands at k × m + j
pub roots_at : (roots : List Root) (m n : ℕ) (l : List Float) (k j : ℕ) → k < n → j < m → n * m ≤ length l → get_or (roots_written roots m n l) (k * m + j) nan ≡ number_at (get_or roots k no_root) j
unfolding roots_written iter
roots_at roots m zero l k j a b f = absurd (omega arith)
roots_at roots m (suc n) l k j a b f = elim (eq-or-lt_of_le {n = k} {m = n} (le_of_suc-le-suc a)) [
  | inl e ↦ rw e (written_at (get_or roots n no_root) m (n * m) (roots_written roots m n l) j b (omega (arith, length_roots roots m n l)))
  | inr i ↦ stays_below (get_or roots n no_root) m (n * m) (roots_written roots m n l) (k * m + j) (omega (arith, mul-le-mul_right m i)) ∙ roots_at roots m n l k j i b (omega arith)
]

-- ---- the list of the densities
pub list_at : (roots : List Root) (i : ℕ) → get_or (root_list roots) i nan ≡ get_or (get_or roots i no_root).head 0 nan
unfolding root_list
list_at [] i = refl
list_at (root ∷ roots) zero = refl
list_at (root ∷ roots) (suc i) = list_at roots i

pub list_length : (roots : List Root) → length (root_list roots) ≡ length roots
unfolding root_list
list_length [] = refl
list_length (root ∷ roots) = ap suc (list_length roots)

-- ---- the lent answer after a call with this answer
module _ (m : GergModel) (k : Kept) (a : Result ℕ Refusal) (n : ℕ) (out : List Float) (e : a ≡ Ok n) where
  -- a root's first number is its density
  pub density_at : n * (4 + m.components) ≤ length out → (i : ℕ) → i < n → get_or (memory_by m k a out) (i * (4 + m.components)) nan ≡ get_or (root_list (roots_in k)) i nan
  unfolding memory_by number_at
  density_at room i h =
      let z : i * (4 + m.components) ≡ i * (4 + m.components) + 0 = omega arith in
      rw (e, z) (roots_at (roots_in k) (4 + m.components) n out i 0 h (omega arith) room ∙ sym (list_at (roots_in k) i))

  pub past_stay : (i : ℕ) → n * (4 + m.components) ≤ i → get_or (memory_by m k a out) i nan ≡ get_or out i nan
  unfolding memory_by
  past_stay i h = rw e (roots_past (roots_in k) (4 + m.components) n out i h)

-- "Every row leaves all lent memory as it was"
pub refused_stays : (m : GergModel) (k : Kept) (a : Result ℕ Refusal) (out : List Float) → (number_of a ≡ 0 → ⊥) → memory_by m k a out ≡ out
unfolding memory_by
refused_stays m k (Ok n) out h = absurd (h refl)
refused_stays m k (Err r) out h = refl

-- ---- what an accepted call tells
pub record Accepted (m : GergModel) (lent n : ℕ) (k : Kept) : Type 0 where
  pub count : length (roots_in k) ≡ n
  pub some : 0 < length (roots_in k)
  pub room : length (roots_in k) * (4 + m.components) ≤ lent

pub answer_accepted : (m : GergModel) (lent n : ℕ) (k : Kept) → answer_of m lent k ≡ Ok n → Accepted m lent n k
unfolding answer_of
answer_accepted m lent n (Err r) e = cc
answer_accepted m lent n (Ok k) e = go (eqb (length k) 0) (ltb lent (needed m k)) refl refl e
  where
    above : (n : ℕ) → (n ≡ 0 → ⊥) → 0 < n
    above n h = omega arith

    go : (b c : Bool) → eqb (length k) 0 ≡ b → ltb lent (needed m k) ≡ c → pick b (Err refusal.NoRoot) (pick c (Err (refusal.TooShort (needed m k))) (Ok (length k))) ≡ Ok n → Accepted m lent n (Ok k)
    go true c z l e = cc
    go false true z l e = cc
    go false false z l e = record { count = cc; some = above (length k) (eqb-false (length k) 0 z); room = ltb-false lent (needed m k) l }
