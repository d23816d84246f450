-- A root's numbers, written one by one or as two lists. Assumes nothing.
use mathlib.Core.Bool.{Bool, true, false}
use mathlib.Core.List.{List, ◌++◌}
use mathlib.Core.Path.{◌≡◌, refl, sym, ap, ◌∙◌}
use Prim.Native.Nat.{ℕ, zero, suc, ◌+◌, ◌-◌, ◌≤◌}
use native.Mathlib.Numerals.{add-one}
use native.Mathlib.Omega.{arith}
use lib.Dec.{ltb}
use lib.Ieee.{Float, nan}
use lib.ListN.{length, get_or, set, take, drop, length-append}
use lib.Seq.{paste, paste-zero, take-append-add}
use borrow.Author.Tests.{ltb-false}
use borrow.Rule.Slice.PartMut.{put_mid}
use Rattle.std.proofs.lemmas.Bool.{ltb-true}
use Rattle.std.proofs.lemmas.List.{get_or_append_left, get_or-append-add, take-take}
use Rattle.std.proofs.lemmas.List.Edits.{paste_more, paste-paste}
use Rattle.std.proofs.lemmas.Slice.{put_mid-paste}
use Rattle.numerics.specs.Double.{pick}
use Rattle.numerics.specs.Iterate.{iter}
use Rattle.gerg_root_list.specs.RootList.{number_at, root_written}
use Rattle.gerg_root_list.specs.declared.Root.{Root}

module _ (root : Root) (four : length root.head ≡ 4) where
  number_is : (j : ℕ) → number_at root j ≡ get_or (root.head ++ root.coefficients) j nan
  unfolding number_at
  number_is j = go (ltb j 4) refl
    where
      go : (b : Bool) → ltb j 4 ≡ b → pick b (get_or root.head j nan) (get_or root.coefficients (j - 4) nan) ≡ get_or (root.head ++ root.coefficients) j nan
      go true e = sym (get_or_append_left root.head root.coefficients nan j (omega (arith, four, ltb-true j 4 e)))
      go false e =
          let at : length root.head + (j - 4) ≡ j = omega (arith, four, ltb-false j 4 e) in
          sym (get_or-append-add root.head root.coefficients (j - 4) nan) ∙ ap (λ (k : ℕ). get_or (root.head ++ root.coefficients) k nan) at

  written_pasted : (m at : ℕ) (l : List Float) → m ≤ length (root.head ++ root.coefficients) → at + m ≤ length l → root_written root m at l ≡ paste l at (root.head ++ root.coefficients) m
  unfolding root_written iter
  written_pasted zero at l h k = paste-zero l at (root.head ++ root.coefficients)
  written_pasted (suc m) at l h k =
      ap (λ o. set o (at + m) (number_at root m)) (written_pasted m at l (omega arith) (omega arith))
      ∙ ap (set (paste l at (root.head ++ root.coefficients) m) (at + m)) (number_is m)
      ∙ paste_more l at (root.head ++ root.coefficients) m nan (omega arith) (omega arith)
      ∙ ap (paste l at (root.head ++ root.coefficients)) (add-one m)

  same_front : (n : ℕ) → take (4 + n) (root.head ++ take n root.coefficients) ≡ take (4 + n) (root.head ++ root.coefficients)
  same_front n =
      ap (λ m. take (m + n) (root.head ++ take n root.coefficients)) (sym four) ∙ take-append-add root.head (take n root.coefficients) n
      ∙ ap (λ z. root.head ++ z) (take-take n n root.coefficients (omega arith)) ∙ sym (take-append-add root.head root.coefficients n) ∙ ap (λ m. take (m + n) (root.head ++ root.coefficients)) four

  -- the head, then the first n coefficients
  pub root_pasted : (n at k j : ℕ) (l h' c' : List Float) → h' ≡ root.head → c' ≡ take n root.coefficients → k ≡ 4 → j ≡ n → n ≤ length root.coefficients → at + (4 + n) ≤ length l → put_mid (at + 4) j (put_mid at k l h') c' ≡ root_written root (4 + n) at l
  root_pasted n at k j l h' c' eh ec ek ej few room =
      let lt : length (take n root.coefficients) ≡ n = lib.Seq.length-take-le n root.coefficients few in
      let first : put_mid at k l h' ≡ paste l at root.head 4 = put_mid-paste at k l h' root.head 4 eh (sym ek) (sym four) in
      put_mid-paste (at + 4) j (put_mid at k l h') c' (take n root.coefficients) n ec (sym ej) (sym lt)
      ∙ ap (λ o. paste o (at + 4) (take n root.coefficients) n) first
      ∙ paste-paste l at root.head (take n root.coefficients) 4 n (sym four) (sym lt) (omega arith)
      ∙ ap (λ z. take at l ++ z ++ drop (at + (4 + n)) l) (same_front n)
      ∙ sym (written_pasted (4 + n) at l (omega (arith, four, length-append root.head root.coefficients)) room)
