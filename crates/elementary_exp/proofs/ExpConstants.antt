-- The numbers of exp's reduction, one name each, and what the doubles of specs/Exp.antt are by them: another scaling or another range is set here. Assumes nothing.
use Rattle.std.proofs.Common.{◌≡◌, ℕ, ◌+◌, ◌-◌, ◌*◌, ◌/◌, ◌^◌, ◌≤◌, false, List, [], ◌∷◌, pos, negsuc, refl, arith, lit≤, pow_pos}
use lib.Ieee.{Float, fin, of_bits}
use Rattle.numerics.specs.Double.{one}
use Rattle.numerics.specs.Fraction.{Frac, ◌⊞◌, nat, val}
use Rattle.numerics.specs.Frac.{big, small}
use Rattle.numerics.specs.Round.{Rel}
use Rattle.numerics.specs.Series.{sum_top, sum_bot, Above, Below, above_by, below_by}
use Rattle.numerics.specs.Law.{times}
use Rattle.numerics.specs.Horner.{fact, one_over, Coefs}
use Rattle.numerics.specs.Coefs.{close_test, close_tested, coefs_test, coefs_tested}
use Rattle.numerics.specs.Whole.{unit52}
use Rattle.elementary_exp.specs.Exp.{steps_per_unit, shift, rounder, origin, step_high, step_low, over2, over6, over24, over120, over720}

-- ---- 64 steps of the two parts together are ln 2: e to them is 2, to 2 ^ -87
abbrev pub two⁺ : Frac
two⁺ = record { top = 2 ^ 88 + 1; bot = 2 ^ 87; good = pow_pos 87 }

abbrev pub parts : Frac
parts = val step_high ⊞ val step_low

pub parts_above : Above (times 64 parts) two⁺
unfolding of_bits sum_top sum_bot
parts_above = above_by 30 (times 64 parts) two⁺ (lit≤ tt) (lit≤ tt)

pub parts_below : Below (times 64 parts) (nat 2)
unfolding of_bits sum_top sum_bot
parts_below = below_by 30 (times 64 parts) (nat 2) (lit≤ tt)

-- ---- the coefficients 1 / 1! to 1 / 6!
abbrev pub later : List Float
later = over2 ∷ over6 ∷ over24 ∷ over120 ∷ over720 ∷ []

pub one_good : Rel 1 one (one_over 1)
unfolding close_test of_bits fact big small
one_good = close_tested 1 one (one_over 1) tt

pub later_good : Coefs 2 later
unfolding coefs_test of_bits fact big small
later_good = coefs_tested 2 later tt

-- ---- the count u of steps of ln 2 / 64: at x = 0, its bounds for x from -700 to 700, and how far it may be from that at 0
abbrev pub zero_steps : ℕ
zero_steps = 131072

abbrev pub fewest_steps : ℕ
fewest_steps = 66430

abbrev pub most_steps : ℕ
most_steps = 195710

abbrev pub far_steps : ℕ
far_steps = 66000

-- ---- the power of two u / 64: at x = 0, and its bounds
abbrev pub zero_power : ℕ
zero_power = 2048

abbrev pub least_power : ℕ
least_power = 1037

abbrev pub most_power : ℕ
most_power = 3058

-- ---- the constants as fractions: 64 / ln 2 over 2 ^ 45, the shift over 4, the two parts of ln 2 / 64 over 2 ^ 40 and 2 ^ 92
abbrev pub per_unit_top : ℕ
per_unit_top = 3248660424278399

abbrev pub shift_top : ℕ
shift_top = 524285

abbrev pub high_top : ℕ
high_top = 11908177887

abbrev pub low_top : ℕ
low_top = 1253299021052141

-- the two parts together
abbrev pub step : Frac
step = record { top = high_top * 2 ^ 52 + low_top; bot = 2 ^ 92; good = pow_pos 92 }

-- ---- in decimals: 64 / ln 2 in millionths; ln 2 / 64, and the remainder's bounds, in parts of 10 ^ 10
abbrev pub per_unit_low : ℕ
per_unit_low = 92332482

abbrev pub per_unit_high : ℕ
per_unit_high = 92332483

abbrev pub step_least : ℕ
step_least = 108304246

abbrev pub step_most : ℕ
step_most = 108304247

abbrev pub remainder_least : ℕ
remainder_least = 20000000

abbrev pub remainder_most : ℕ
remainder_most = 140000000

-- x * 64 / ln 2 + 131071.25 with its roundings, in parts of 10 ^ 7: the bounds of its slope, the lower one times x below zero too, and of its value at 0
abbrev pub slope_low : ℕ
slope_low = 923324820

abbrev pub slope_high : ℕ
slope_high = 923324830

abbrev pub slope_most : ℕ
slope_most = 923324923

abbrev pub start_low : ℕ
start_low = 1310712500000

abbrev pub start_most : ℕ
start_most = 1310712631072

-- ---- laws
pub zero_power_lem : zero_power * 64 ≡ zero_steps
zero_power_lem = refl

pub powers : (u : ℕ) → fewest_steps ≤ u → u ≤ most_steps → (least_power ≤ u / 64) × (u / 64 ≤ most_power)
powers u h k = (omega arith, omega arith)

pub far_above : (u : ℕ) → u ≤ most_steps → u - zero_steps ≤ far_steps
far_above u h = omega arith

pub far_below : (u : ℕ) → fewest_steps ≤ u → zero_steps - u ≤ far_steps
far_below u h = omega arith

-- ---- the doubles
abbrev pub per_unit : Float
per_unit = fin false per_unit_top (negsuc 44)

abbrev pub shifted : Float
shifted = fin false shift_top (negsuc 1)

abbrev pub start : Float
start = fin false 34359738369 (pos 17)

abbrev pub hi : Float
hi = fin false high_top (negsuc 39)

abbrev pub lo : Float
lo = fin false low_top (negsuc 91)

pub per_unit_is : steps_per_unit ≡ per_unit
unfolding of_bits
per_unit_is = refl

pub shift_is : shift ≡ shifted
unfolding of_bits
shift_is = refl

pub rounder_is : rounder ≡ unit52
unfolding of_bits
rounder_is = refl

pub start_is : origin ≡ start
unfolding of_bits
start_is = refl

pub hi_is : step_high ≡ hi
unfolding of_bits
hi_is = refl

pub lo_is : step_low ≡ lo
unfolding of_bits
lo_is = refl
