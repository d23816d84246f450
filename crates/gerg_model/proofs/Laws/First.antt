-- Laws of the first place that a test holds of: it is std's among the places, so `position` finds it; what it says of the places before; the same place as an Option. Assumes nothing.
use denote.Param.Members.{Mut}
use denote.Ref.{Bor}
use lib.Dec.{eqb, ltb}
use lib.Ieee.{Float, nan}
use lib.ListN.{length, get_or, take}
use mathlib.Core.Bool.{Bool, true, false, not, ◌||◌, cond}
use mathlib.Core.List.{List, [], ◌∷◌}
use mathlib.Core.Path.{◌≡◌, refl, sym, ap, ◌∙◌}
use Prim.Native.Nat.{ℕ, zero, suc, ◌+◌, ◌≤◌, ◌<◌}
use native.Mathlib.Omega.{arith}
use borrow.Author.Tests.{lt-ltb, le-ltb, ltb-true, ltb-false, eq-eqb, ne_eqb}
use Rattle.std.specs.declared.ops.Range.{Range}
use Rattle.std.specs.declared.slice.Iter.{Iter}
use Rattle.std.proofs.Common.{Option, Some, None}
use Rattle.std.proofs.iter.Yields.{nat_range_steps, fronts}
use Rattle.std.proofs.lemmas.Iterator.{YieldsList-from_range, YieldsList-from_slice}
use Rattle.std.proofs.lemmas.Iterator.Search.{position_from_yields_List}
use Rattle.std.proofs.lemmas.List.{get_or-take, length-take-le}
use Rattle.std.proofs.lemmas.List.FromFn.{length-range_with_len, get_or-range_with_len}
use Rattle.std.proofs.lemmas.List.Sums.{prefix_len-le-length, position_or_len_is, fails_before_first, passes_at_first}
use Rattle.std.specs.Bool.{then_some}
use Rattle.std.specs.Fn.{Called}
use Rattle.std.specs.Iterator.{FindsPosition}
use Rattle.std.specs.List.{list_any, position_or_len, range_with_len}
use Rattle.std.specs.Option.{is_some}
use Rattle.std.specs.Slice.Iter.{iter_rest}
use Rattle.numerics.specs.Double.{pick}
use Rattle.gerg_model.specs.MixtureCheck.{first_place, found}
use Rattle.gerg_model.specs.Mixture.{nonfinite_at, all_finite}

-- counted on from k
places : (bad : ℕ → Bool) (n k : ℕ) → first_place bad n k ≡ k + position_or_len bad (range_with_len k n)
unfolding first_place
places bad zero k = omega arith
places bad (suc n) k = go (bad k) _ _ (places bad n (k + 1))
  where
    go : (b : Bool) (r p : ℕ) → r ≡ k + 1 + p → pick b k r ≡ k + cond (not b) (1 + p) 0
    go true r p e = omega arith
    go false r p e = omega arith

module _ (bad : ℕ → Bool) (n : ℕ) where
  abbrev all : List ℕ
  all = range_with_len 0 n

  among : first_place bad n 0 ≡ position_or_len bad all
  among = omega (arith, places bad n 0)

  place : (j : ℕ) → j < n → get_or all j 0 ≡ j
  place j h = get_or-range_with_len 0 n j 0 h ∙ (let e : 0 + j ≡ j = omega arith in e)

  pub first_at_end : first_place bad n 0 ≤ n
  first_at_end = omega (arith, among, prefix_len-le-length (λ k. not (bad k)) all, length-range_with_len 0 n)

  -- the test holds of no place before it,
  pub first_before : (j : ℕ) → j < first_place bad n 0 → bad j ≡ false
  first_before j h = let l = first_at_end in ap bad (sym (place j (omega arith))) ∙ fails_before_first bad all j 0 (omega (arith, among))

  -- and of the place itself, if there is one,
  pub first_holds : first_place bad n 0 < n → bad (first_place bad n 0) ≡ true
  first_holds h = ap bad (sym (place (first_place bad n 0) h) ∙ ap (λ (j : ℕ). get_or all j 0) among) ∙ passes_at_first bad all 0 (omega (arith, among, length-range_with_len 0 n))

  -- which tells the place
  pub first_is : (k : ℕ) → k ≤ n → ((j : ℕ) → j < k → bad j ≡ false) → (k < n → bad k ≡ true) → first_place bad n 0 ≡ k
  first_is k l before here =
      let m = length-range_with_len 0 n in
      among ∙ position_or_len_is bad all k 0 (omega arith) (λ j h. ap bad (place j (omega arith)) ∙ before j h)
      (λ h. let i : k < n = omega arith in ap bad (place k i) ∙ here i)

  -- where there is no first place, the test holds of none
  pub first_passed : (k : ℕ) → n ≤ first_place bad n 0 → k < n → bad k ≡ false
  first_passed k h l = first_before k (omega arith)

  -- a place that the test holds of is not before the first
  pub first_at_most : (d : ℕ) → d < n → bad d ≡ true → first_place bad n 0 ≤ d
  first_at_most d l e = go (ltb d (first_place bad n 0)) refl
    where
      go : (b : Bool) → ltb d (first_place bad n 0) ≡ b → first_place bad n 0 ≤ d
      go true t = let f = first_before d (ltb-true d (first_place bad n 0) t) in cc
      go false t = ltb-false d (first_place bad n 0) t

-- tests that agree have the same first place
pub first_alike : (p q : ℕ → Bool) (n : ℕ) → ((j : ℕ) → j < n → p j ≡ q j) → first_place p n 0 ≡ first_place q n 0
first_alike p q n e =
    let l = first_at_end q n in
    first_is p n (first_place q n 0) l (λ j h. e j (omega arith) ∙ first_before q n j h) (λ h. e (first_place q n 0) h ∙ first_holds q n h)

-- ---- among the elements of a list
listed : {A : Type 0} (test : A → Bool) (d : A) (xs : List A) → first_place (λ j. test (get_or xs j d)) (length xs) 0 ≡ position_or_len test xs
listed test d xs =
    first_is (λ j. test (get_or xs j d)) (length xs) (position_or_len test xs) (prefix_len-le-length (λ x. not (test x)) xs)
    (λ j h. fails_before_first test xs j d h) (λ h. passes_at_first test xs d h)

any_before : {A : Type 0} (test : A → Bool) (xs : List A) → ltb (position_or_len test xs) (length xs) ≡ list_any test xs
any_before test [] = refl
any_before test (x ∷ xs) = go (test x) (list_any test xs) _ _ (any_before test xs)
  where
    go : (b a : Bool) (p n : ℕ) → ltb p n ≡ a → ltb (cond (not b) (1 + p) 0) (suc n) ≡ (b || a)
    go true a p n e = lt-ltb 0 (suc n) (omega arith)
    go false true p n e = let l = ltb-true p n e in lt-ltb (1 + p) (suc n) (omega arith)
    go false false p n e = let l = ltb-false p n e in le-ltb (1 + p) (suc n) (omega arith)

-- among the first n of a list: where there is a first place, one of them passes
pub any_first : {A : Type 0} (test : A → Bool) (d : A) (xs : List A) (n : ℕ) → n ≤ length xs → list_any test (take n xs) ≡ ltb (first_place (λ j. test (get_or xs j d)) n 0) n
any_first test d xs n h =
    let front = take n xs in
    let l = length-take-le n xs h in
    let e = first_alike (λ j. test (get_or xs j d)) (λ j. test (get_or front j d)) n (λ j i. ap test (sym (get_or-take n xs j d i))) in
    let p : first_place (λ j. test (get_or front j d)) n 0 ≡ position_or_len test front = ap (λ (m : ℕ). first_place (λ j. test (get_or front j d)) m 0) (sym l) ∙ listed test d front in
    sym (any_before test front) ∙ rw (← p, ← e, l)

-- ---- as an Option
some_or_none : (b : Bool) (k : ℕ) → cond b (Some k) None ≡ then_some b k
some_or_none true k = refl
some_or_none false k = refl

pub some_told : {A : Type 0} (b : Bool) (x : A) {y : A} → Some y ≡ then_some b x → (b ≡ true) × (y ≡ x)
some_told true x e = (refl, (cc))
some_told false x e = cc

pub none_told : {A : Type 0} (b : Bool) (x : A) → None ≡ then_some b x → b ≡ false
none_told true x e = cc
none_told false x e = refl

pub found_some : (bad : ℕ → Bool) (n k : ℕ) → Some k ≡ found bad n → (ltb (first_place bad n 0) n ≡ true) × (k ≡ first_place bad n 0)
unfolding found
found_some bad n k e = some_told (ltb (first_place bad n 0) n) (first_place bad n 0) e

pub found_none : (bad : ℕ → Bool) (n : ℕ) → None ≡ found bad n → ltb (first_place bad n 0) n ≡ false
unfolding found
found_none bad n e = none_told (ltb (first_place bad n 0) n) (first_place bad n 0) e

-- `(0..n).position(bad)`, where the closure computes a test
pub first_of_range : {F : Type 0} {g : Mut F (ℕ × Unit {0}) Bool} (bad : ℕ → Bool) (n : ℕ) {u : Range ℕ} {f : F} {r : Option ℕ} →
    FindsPosition nat_range_steps g (record { start = 0; end = n }) f r u → ((x : ℕ) (b : Bool) (q : F) → Called g f (x, tt) b q → (q ≡ f) × (b ≡ bad x)) → r ≡ found bad n
unfolding found
first_of_range bad n {u} {f} {r} ran computes =
    position_from_yields_List bad u f r ran (YieldsList-from_range 0 n n refl (omega arith)) computes ∙ rw (← among bad n, length-range_with_len 0 n) (some_or_none _ _)

-- `xs.iter().position(test)`
pub first_of_slice : {A F : Type 0} {g : Mut F (Bor A × Unit {0}) Bool} (test : A → Bool) (d : A) (xs : List A) {s u : Iter A} {f : F} {r : Option ℕ} →
    iter_rest s ≡ xs → FindsPosition fronts g s f r u → ((x : Bor A) (b : Bool) (q : F) → Called g f (x, tt) b q → (q ≡ f) × (b ≡ test x.now)) →
    r ≡ found (λ j. test (get_or xs j d)) (length xs)
unfolding found
first_of_slice test d xs {s} {u} {f} {r} rest ran computes =
    position_from_yields_List test u f r ran (YieldsList-from_slice xs rest) computes ∙ rw (← listed test d xs) (some_or_none _ _)

-- whether it is there
pub none_found : (bad : ℕ → Bool) (n : ℕ) {o : Option ℕ} {b : Bool} → o ≡ found bad n → is_some o ≡ not b → b ≡ eqb (first_place bad n 0) n
unfolding found
none_found bad n {o} {b} e t = go (ltb (first_place bad n 0) n) refl b (ap is_some (sym e) ∙ t)
  where
    go : (c : Bool) → ltb (first_place bad n 0) n ≡ c → (d : Bool) → is_some (then_some c (first_place bad n 0)) ≡ not d → d ≡ eqb (first_place bad n 0) n
    go true l false q = let h = ltb-true (first_place bad n 0) n l in sym (ne_eqb (first_place bad n 0) n (λ (z : first_place bad n 0 ≡ n). omega arith))
    go false l true q = let h = ltb-false (first_place bad n 0) n l in let m = first_at_end bad n in sym (eq-eqb (first_place bad n 0) n (omega arith))
    go true l true q = cc
    go false l false q = cc

-- whether the first n of a list of doubles are finite
pub front_finite : (values : List Float) (n : ℕ) {o : Option ℕ} {b : Bool} → n ≤ length values → o ≡ found (nonfinite_at (take n values)) (length (take n values)) → is_some o ≡ not b → b ≡ all_finite values n
unfolding all_finite nonfinite_at
front_finite values n h e t =
    let front = take n values in
    let alike = first_alike (nonfinite_at front) (nonfinite_at values) n (λ j l. rw (get_or-take n values j nan l) refl) in
    none_found (nonfinite_at front) (length front) e t ∙ rw (length-take-le n values h, alike) refl
