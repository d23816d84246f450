-- Rows 3 and 4: the component list and the fractions.
use Rattle.std.specs.Prelude.{Bool, not, ◌&&◌, ◌||◌, List, ℕ, zero, suc, ◌+◌, leb, ltb, eqb, Float, length, get_or, Option, Result, Ok, Err}
use Rattle.std.specs.Bool.{then_some}
use Rattle.std.specs.Float.{nan}
use Rattle.std.specs.Float.Ieee.{lt, le, neg}
use Rattle.std.specs.Float.Ieee.Scale.{finite}
use Rattle.numerics.specs.Double.{◌⊕◌, ◌⊖◌, bits, +0, one, pick}
use Rattle.numerics.specs.Iterate.{iter}
use Rattle.gerg_refusals.specs.declared.Refusal.{Refusal}
use Rattle.gerg_refusals.specs.declared.Refusal.TheVariants.{Components, Fractions}

-- the first place, of n from k on, that the test holds of; k + n where it holds of none
unfoldable pub first_place : (ℕ → Bool) → ℕ → ℕ → ℕ
first_place bad zero k = k
first_place bad (suc n) k = pick (bad k) k (first_place bad n (k + 1))

-- the first place, of the first n, that the test holds of, if there is one
unfoldable pub found : (ℕ → Bool) → ℕ → Option ℕ
found bad n = then_some (ltb (first_place bad n 0) n) (first_place bad n 0)

-- "component list .. over 21, number unknown or repeated": place k is past the 21st, or holds no number from 1 to 21, or one that an earlier place holds
unfoldable pub bad_number : List ℕ → ℕ → Bool
bad_number list k =
    ((leb 21 k || eqb (get_or list k 0) 0) || ltb 21 (get_or list k 0))
    || ltb (first_place (λ j. eqb (get_or list j 0) (get_or list k 0)) k 0) k

-- "nonfinite or negative"; −0 is not below 0
unfoldable pub bad_fraction : List Float → ℕ → Bool
bad_fraction fractions k = not (finite (get_or fractions k nan)) || lt (get_or fractions k nan) +0

-- "add up, in list order"
unfoldable pub sum_of : List Float → Float
sum_of fractions = iter (λ k sum. sum ⊕ get_or fractions k nan) (length fractions) +0

-- 1e-9
abbrev pub sum_tolerance : Float
sum_tolerance = bits 0x3e11_2e0b_e826_d695

-- "to 1 within 1e-9": the difference from 1, rounded once, lies from −1e-9 to 1e-9
unfoldable pub adds_up : List Float → Bool
adds_up fractions = le (neg sum_tolerance) (sum_of fractions ⊖ one) && le (sum_of fractions ⊖ one) sum_tolerance

-- "component list empty, over 21, number unknown or repeated: 3, first bad place from 0"; then "length differs (list length), then nonfinite or negative (first bad place), then bad sum (list length): 4"
unfoldable pub check_of : List ℕ → List Float → Result (Unit {0}) Refusal
check_of list fractions =
    pick (eqb (length list) 0) (Err (Components 0))
    (pick (ltb (first_place (bad_number list) (length list) 0) (length list)) (Err (Components (first_place (bad_number list) (length list) 0)))
    (pick (not (eqb (length fractions) (length list))) (Err (Fractions (length list)))
    (pick (ltb (first_place (bad_fraction fractions) (length fractions) 0) (length fractions)) (Err (Fractions (first_place (bad_fraction fractions) (length fractions) 0)))
    (pick (adds_up fractions) (Ok tt) (Err (Fractions (length list)))))))
