-- The theorem at work, where its conditions are tightest: 1.5 to the power −64, at the end of |t|; and the smallest double, which is subnormal, to the power 1 / 16, where a plain bound of |ln x| leaves |t ln x| ≤ 64 with nothing to spare. Assumes nothing.
use mathlib.Core.Path.{refl}
use lib.Dec.{lit≤}
use lib.Ieee.{Float, neg, le, lt, eq, fits, of_bits}
use Rattle.numerics.specs.Double.{bits}
use Rattle.numerics.specs.Frac.{Frac, nat}
use Rattle.numerics.specs.Fraction.{val}
use Rattle.numerics.specs.Series.{sum_top, sum_bot}
use Rattle.numerics.specs.Law.{power}
use Rattle.numerics.specs.Exponential.{signed, plus_of, BelowExp}
use Rattle.numerics.proofs.ExpBoundSums.{times_of}
use Rattle.numerics.proofs.ExponentialLaws.{exp_below_arg, exp_below_times}
use Rattle.numerics.proofs.Equivalence.{below_nonneg}
use Rattle.numerics.proofs.ExponentOrder.{exp_one_more}
use Rattle.numerics.proofs.PowerConditions.{product_within_by}
use Rattle.elementary.specs.Power.{powf_of}
use Rattle.elementary_distance.specs.Distances.{WithinOfPower, powf_bits}
use Rattle.elementary_distance.proofs.Theorems.{powf_within}

-- ---- |ln 1.5| ≤ 1 / 2, since 1 + 1 / 2 is below e ^ (1 / 2)
abbrev one_and_half : Float
one_and_half = bits 0x3ff8_0000_0000_0000

abbrev minus_64 : Float
minus_64 = neg (bits 0x4050_0000_0000_0000)

half : Frac
half = record { top = 1; bot = 2; good = lit≤ tt }

pub largest_exponent : WithinOfPower powf_bits one_and_half minus_64 (powf_of one_and_half minus_64)
unfolding le lt eq fits of_bits neg half
largest_exponent = powf_within one_and_half minus_64 tt refl tt (lit≤ tt) (product_within_by (val one_and_half) (signed minus_64) (nat 64) half (record { top = 3; bot = 2; good = lit≤ tt }) (lit≤ tt) (exp_one_more half) (lit≤ tt) (lit≤ tt) (lit≤ tt))

-- ---- |ln 2 ^ -1074| ≤ 1024, since (5 / 2) ^ 1024 is below e ^ 1024
abbrev smallest : Float
smallest = bits 1

abbrev sixteenth : Float
sixteenth = bits 0x3fb0_0000_0000_0000

abbrev five_halves : Frac
five_halves = record { top = 5; bot = 2; good = lit≤ tt }

below_e : BelowExp (plus_of (nat 1)) five_halves
below_e = (below_nonneg (nat 1) five_halves).1 (2, unfold sum_top sum_bot in lit≤ tt)

below_power : BelowExp (plus_of (nat 1024)) (power 1024 five_halves)
below_power = exp_below_arg (times_of 1024 (plus_of (nat 1))) (plus_of (nat 1024)) (power 1024 five_halves) (lit≤ tt) (exp_below_times 1024 (plus_of (nat 1)) five_halves below_e)

pub smallest_double : WithinOfPower powf_bits smallest sixteenth (powf_of smallest sixteenth)
unfolding le lt eq fits of_bits power
smallest_double = powf_within smallest sixteenth tt refl tt (lit≤ tt) (product_within_by (val smallest) (signed sixteenth) (nat 64) (nat 1024) (power 1024 five_halves) (lit≤ tt) below_power (lit≤ tt) (lit≤ tt) (lit≤ tt))
