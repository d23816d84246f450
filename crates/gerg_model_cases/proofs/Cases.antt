-- The cases of document 01 on reducing values, and of rows 3 and 4, proved about the definitions. Assumes nothing.
use mathlib.Core.List.{List, [], ◌∷◌}
use mathlib.Core.Path.{◌≡◌, refl}
use lib.Ieee.{Float, nan, add, sub, mul, div, eq, lt, le, neg, of_bits}
use lib.ListN.{get_or, replicate}
use Rattle.numerics.specs.Double.{bits, one, +0}
use Rattle.numerics.specs.Iterate.{iter, range}
use Rattle.gerg_model.specs.MixtureCheck.{first_place, bad_number, bad_fraction, sum_of, adds_up, check_of}
use Rattle.std.proofs.Common.{Ok, Err}
use Rattle.gerg_refusals.specs.declared.Refusal.TheVariants.{Components}
use Rattle.gerg_model.specs.Mixture.{by_component, model_of}
use Rattle.gerg_reducing.specs.Reducing.{bij, gij, weight, reducing_pair, reducing_row, reducing, bumped, first_part, second_part, gradient_pair, gradient_row, gradient_of, gradients_of}
use Rattle.gerg_model_cases.specs.Cases.{equal_pairs, equal_tables}

-- "pure, b = 1, gv = 0.125, gt = 200: density 8000, temperature 200, own volume gradient 0.25"
pub pure_density : (model_of equal_tables (1 ∷ []) (one ∷ [])).reducing_density ≡ bits 0x40bf_4000_0000_0000
unfolding equal_pairs equal_tables model_of by_component reducing reducing_row reducing_pair bij gij weight iter range add sub mul div eq neg of_bits
pure_density = refl

pub pure_temperature : (model_of equal_tables (1 ∷ []) (one ∷ [])).reducing_temperature ≡ bits 0x4069_0000_0000_0000
unfolding equal_pairs equal_tables model_of by_component reducing reducing_row reducing_pair bij gij weight iter range add sub mul div eq neg of_bits
pure_temperature = refl

pub pure_gradient : get_or (get_or (gradients_of equal_tables (by_component (1 ∷ []) (one ∷ []))) 0 []) 0 nan ≡ bits 0x3fd0_0000_0000_0000
unfolding equal_pairs equal_tables by_component gradients_of gradient_of gradient_row gradient_pair first_part second_part bumped bij gij weight iter range add sub mul div eq neg of_bits
pure_gradient = refl

-- "two halves, all b = 1, gv = 0.125: density 8000"
pub halves_density :
    (model_of equal_tables (1 ∷ 2 ∷ []) (bits 0x3fe0_0000_0000_0000 ∷ bits 0x3fe0_0000_0000_0000 ∷ [])).reducing_density ≡ bits 0x40bf_4000_0000_0000
unfolding equal_pairs equal_tables model_of by_component reducing reducing_row reducing_pair bij gij weight iter range add sub mul div eq neg of_bits
halves_density = refl

-- an empty list is refused at 0,
pub empty_list : (fractions : List Float) → check_of [] fractions ≡ Err (Components 0)
unfolding check_of
empty_list fractions = refl

-- one of 22 that lists all 21 components at the 22nd place,
pub list_of_22 :
    (fractions : List Float) →
    check_of (21 ∷ 20 ∷ 19 ∷ 18 ∷ 17 ∷ 16 ∷ 15 ∷ 14 ∷ 13 ∷ 12 ∷ 11 ∷ 10 ∷ 9 ∷ 8 ∷ 7 ∷ 6 ∷ 5 ∷ 4 ∷ 3 ∷ 2 ∷ 1 ∷ 1 ∷ []) fractions ≡ Err (Components 21)
unfolding check_of bad_number first_place
list_of_22 fractions = refl

-- one of 300 equal numbers at the second
pub list_of_300 : (fractions : List Float) → check_of (replicate 300 5) fractions ≡ Err (Components 1)
unfolding check_of bad_number first_place
list_of_300 fractions = refl

-- "−0 counts as zero": 1 and −0 pass
pub negative_zero : check_of (1 ∷ 2 ∷ []) (one ∷ neg +0 ∷ []) ≡ Ok tt
unfolding check_of bad_number bad_fraction first_place sum_of adds_up iter add sub lt le neg of_bits
negative_zero = refl
