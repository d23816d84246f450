-- `check_mixture` refuses by a number at most 4 and a value at most 21. Assumes nothing.
use mathlib.Core.Bool.{Bool, true, false, not}
use mathlib.Core.List.{List}
use mathlib.Core.Path.{◌≡◌, refl}
use Prim.Native.Nat.{ℕ, ◌≤◌}
use native.Mathlib.Omega.{arith}
use borrow.Author.Tests.{ltb-true, ltb-false, leb-true, leb-false, eqb-true}
use lib.Dec.{leb, ltb, eqb}
use lib.Ieee.{Float}
use lib.ListN.{length}
use Rattle.std.proofs.Common.{Result, Ok, Err, IfErr}
use Rattle.std.proofs.lemmas.Result.{IfErr-at_err}
use Rattle.numerics.specs.Double.{pick}
use Rattle.gerg_refusals.specs.Answer.{number_of, value_of}
use Rattle.gerg_refusals.specs.Refusal as of_refusal
use Rattle.gerg_refusals.specs.declared.Refusal.{Refusal}
use Rattle.gerg_refusals.specs.declared.Refusal.TheVariants.{Components, Fractions}
use Rattle.gerg_model.specs.MixtureCheck.{first_place, bad_number, bad_fraction, adds_up, check_of}
use Rattle.gerg_model.proofs.Laws.First.{first_passed, first_at_most}
use Rattle.gerg_model.proofs.Laws.Accepted.{known_list}

-- of row 3 or row 4
abbrev ThreeOrFour : Refusal → Type 0
ThreeOrFour r = (3 ≤ of_refusal.number_of r) × (of_refusal.number_of r ≤ 4)

rows_3_and_4 : (a b c d e : Bool) (place n fraction : ℕ) →
    IfErr (pick a (Err (Components 0)) (pick b (Err (Components place)) (pick (not c) (Err (Fractions n)) (pick d (Err (Fractions fraction)) (pick e (Ok (tt {0})) (Err (Fractions n))))))) ThreeOrFour
rows_3_and_4 true b c d e place n fraction = (omega arith, omega arith)
rows_3_and_4 false true c d e place n fraction = (omega arith, omega arith)
rows_3_and_4 false false false d e place n fraction = (omega arith, omega arith)
rows_3_and_4 false false true true e place n fraction = (omega arith, omega arith)
rows_3_and_4 false false true false true place n fraction = tt
rows_3_and_4 false false true false false place n fraction = (omega arith, omega arith)

mixture_rows : (list : List ℕ) (fractions : List Float) → IfErr (check_of list fractions) ThreeOrFour
unfolding check_of
mixture_rows list fractions =
    let number = first_place (bad_number list) (length list) 0 in
    let fraction = first_place (bad_fraction fractions) (length fractions) 0 in
    rows_3_and_4 (eqb (length list) 0) (ltb number (length list)) (eqb (length fractions) (length list)) (ltb fraction (length fractions)) (adds_up fractions) number (length list) fraction

pub mixture_at_most_4 : (list : List ℕ) (fractions : List Float) → number_of (check_of list fractions) ≤ 4
mixture_at_most_4 list fractions = go (check_of list fractions) (mixture_rows list fractions)
  where
    go : (x : Result (Unit {0}) Refusal) → IfErr x ThreeOrFour → number_of x ≤ 4
    go (Ok u) row = omega arith
    go (Err r) row = row.1

-- a refusal is one of rows 3 and 4
pub mixture_refused : (list : List ℕ) (fractions : List Float) (r : Refusal) → check_of list fractions ≡ Err r → 3 ≤ of_refusal.number_of r
mixture_refused list fractions r q = (IfErr-at_err ThreeOrFour q (mixture_rows list fractions)).0

values : (a b c d e : Bool) (place n fraction : ℕ) → (b ≡ true → place ≤ 21) → (b ≡ false → n ≤ 21) → (b ≡ false → c ≡ true → d ≡ true → fraction ≤ 21) →
    value_of (pick a (Err (Components 0)) (pick b (Err (Components place)) (pick (not c) (Err (Fractions n)) (pick d (Err (Fractions fraction)) (pick e (Ok (tt {0})) (Err (Fractions n))))))) ≤ 21
values true b c d e place n fraction p l f = omega arith
values false true c d e place n fraction p l f = p refl
values false false false d e place n fraction p l f = l refl
values false false true true e place n fraction p l f = f refl refl refl
values false false true false true place n fraction p l f = omega arith
values false false true false false place n fraction p l f = l refl

module _ (list : List ℕ) where
  abbrev place : ℕ
  place = first_place (bad_number list) (length list) 0

  -- the place past the 21st is bad
  past : bad_number list 21 ≡ true
  unfolding bad_number
  past = refl

  place_at_most : (t : Bool) → leb (length list) 21 ≡ t → ltb place (length list) ≡ true → place ≤ 21
  place_at_most true e h =
      let few = leb-true (length list) 21 e in
      let before = ltb-true place (length list) h in
      omega arith
  place_at_most false e h = first_at_most (bad_number list) (length list) 21 (leb-false (length list) 21 e) past

  -- row 3 passed
  length_at_most : ltb place (length list) ≡ false → length list ≤ 21
  length_at_most h = (known_list list (λ k l. first_passed (bad_number list) (length list) k (ltb-false place (length list) h) l)).few

-- "first bad place from 0", "list length": a place of the list or its length
pub mixture_value_at_most_21 : (list : List ℕ) (fractions : List Float) → value_of (check_of list fractions) ≤ 21
unfolding check_of
mixture_value_at_most_21 list fractions =
    let fraction = first_place (bad_fraction fractions) (length fractions) 0 in
    values (eqb (length list) 0) (ltb (place list) (length list)) (eqb (length fractions) (length list)) (ltb fraction (length fractions)) (adds_up fractions)
    (place list) (length list) fraction
    (place_at_most list (leb (length list) 21) refl)
    (length_at_most list)
    (λ b c d. within b c d)
  where
    within : ltb (place list) (length list) ≡ false → eqb (length fractions) (length list) ≡ true →
        ltb (first_place (bad_fraction fractions) (length fractions) 0) (length fractions) ≡ true → first_place (bad_fraction fractions) (length fractions) 0 ≤ 21
    within b c d =
        let few = length_at_most list b in
        let same = eqb-true (length fractions) (length list) c in
        let before = ltb-true (first_place (bad_fraction fractions) (length fractions) 0) (length fractions) d in
        omega arith
