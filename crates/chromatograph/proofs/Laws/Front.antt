-- Row 3 looks at 22 places at most: the 22nd is bad whatever it holds. Assumes nothing.
use mathlib.Core.Path.{◌≡◌, refl, ap, ◌∙◌}
use mathlib.Core.Bool.{Bool, true, false}
use Prim.Native.Nat.{ℕ, min, ◌≤◌, ◌<◌}
use native.Mathlib.Omega.{arith}
use borrow.Author.Tests.{lt-ltb, ltb-true, ltb-false, ne_eqb}
use lib.Dec.{eqb, ltb}
use lib.ListN.{get_or}
use Rattle.numerics.specs.Fill.{tabulate, length_tabulate, get_d_tabulate}
use Rattle.gerg_model.specs.MixtureCheck.{first_place, bad_number}
use Rattle.gerg_model.proofs.Laws.First.{first_is, first_before, first_holds, first_at_most, first_alike}
use Rattle.chromatograph.specs.Lists.{bad_place, bad_list, row_3}

module _ (f : ℕ → ℕ) where
  abbrev bad : ℕ → ℕ → Bool
  bad n = bad_number (tabulate f n)

  early : (n : ℕ) → 21 < n → first_place (bad n) n 0 ≤ 21
  unfolding bad_number
  early n l = first_at_most (bad n) n 21 l refl

  -- a place of two lists with the same front is bad in both or in none
  same_bad : (n m k : ℕ) → k < n → k < m → bad n k ≡ bad m k
  unfolding bad_number
  same_bad n m k l g =
      let a = get_d_tabulate f n k 0 l in
      let b = get_d_tabulate f m k 0 g in
      let e = first_alike (λ j. eqb (get_or (tabulate f n) j 0) (f k)) (λ j. eqb (get_or (tabulate f m) j 0) (f k)) k
      (λ j h. rw (get_d_tabulate f n j 0 (omega arith), get_d_tabulate f m j 0 (omega arith))) in
      rw (a, b, e)

  same_place : (n m : ℕ) → 21 < n → 21 < m → first_place (bad n) n 0 ≡ first_place (bad m) m 0
  same_place n m l g =
      let h = early m g in
      first_is (bad n) n (first_place (bad m) m 0) (omega arith) (λ j i. same_bad n m j (omega arith) (omega arith) ∙ first_before (bad m) m j i)
      (λ i. same_bad n m (first_place (bad m) m 0) i (omega arith) ∙ first_holds (bad m) m (omega arith))

  refused : (n : ℕ) → 21 < n → bad_list (tabulate f n) ≡ true
  unfolding bad_list bad_place
  refused n l =
      let h = early n l in
      rw (length_tabulate f n, ne_eqb n 0 (λ (e : n ≡ 0). omega arith), lt-ltb (first_place (bad n) n 0) n (omega arith)) refl

  pub front_decides : (n m : ℕ) → 21 < n → 21 < m → bad_place (tabulate f n) ≡ bad_place (tabulate f m)
  unfolding bad_place
  front_decides n m l g = rw (length_tabulate f n, length_tabulate f m) (same_place n m l g)

  -- of the first 22 as of all
  pub front_row_3 : (n all : ℕ) → n ≡ min all 22 → row_3 (tabulate f n) ≡ row_3 (tabulate f all)
  unfolding row_3 bad_place
  front_row_3 n all e = go (ltb all 22) refl
    where
      go : (b : Bool) → ltb all 22 ≡ b → row_3 (tabulate f n) ≡ row_3 (tabulate f all)
      go true t = let l = ltb-true all 22 t in ap (λ (k : ℕ). row_3 (tabulate f k)) (let q : n ≡ all = omega arith in q)
      go false t =
          let l = ltb-false all 22 t in
          let a : 21 < n = omega arith in
          let b : 21 < all = omega arith in
          rw (refused n a, refused all b, length_tabulate f n, length_tabulate f all, same_place n all a b) refl
