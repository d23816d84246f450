-- What exp's definition gives at single arguments and beyond its range, and that it is a double. Assumes nothing.
use Rattle.std.proofs.Common.{◌≡◌, true, false, ◌&&◌, T, refl}
use lib.Ieee.{Float, nan, inf, binary64, lt, eq, ne, neg, of_bits, fits}
use lib.Ieee.Bits.{of_bits-fits}
use lib.Ieee.Fits.{add-fits}
use lib.Ieee.Positive.{positive}
use Rattle.numerics.specs.Double.{+0, one}
use Rattle.numerics.specs.Held.{pick_held}
use Rattle.numerics.specs.Nan.{itself}
use Rattle.numerics.specs.Order.{less_numbers, below_minus}
use Rattle.elementary_exp.specs.Exp.{exp_of, most, least, within_of}

-- "exp(±0) = 1"
pub exp_zero : exp_of +0 ≡ one
unfolding exp_of lt ne eq neg of_bits
exp_zero = refl

pub exp_minus_zero : exp_of (neg +0) ≡ one
unfolding exp_of lt ne eq neg of_bits
exp_minus_zero = refl

pub exp_nan : exp_of nan ≡ nan
unfolding exp_of ne
exp_nan = refl

-- "Above 700 it gives +infinity, below −700 it gives +0"
pub exp_above : (x : Float) → lt most x ≡ true → exp_of x ≡ inf false
unfolding exp_of
exp_above x e = rw (itself x (less_numbers most x e).1, e)

most_positive : T (positive most)
unfolding of_bits
most_positive = tt

pub exp_below : (x : Float) → lt x (neg most) ≡ true → exp_of x ≡ +0
unfolding exp_of
exp_below x e = rw (itself x (less_numbers x (neg most) e).0, below_minus most x most_positive e, e)

pub exp_infinity : exp_of (inf false) ≡ inf false
unfolding exp_of lt ne eq of_bits
exp_infinity = refl

pub exp_minus_infinity : exp_of (inf true) ≡ +0
unfolding exp_of lt ne eq neg of_bits
exp_minus_infinity = refl

-- whatever x is, the answer is a double
within_double : (x : Float) → T (fits binary64 (within_of x))
unfolding within_of
within_double x = add-fits binary64 _ _

pub exp_double : (x : Float) → T (fits binary64 (exp_of x))
unfolding exp_of fits
exp_double x =
    pick_held binary64 (ne x x) nan _ tt
    (pick_held binary64 (lt most x) (inf false) _ tt
    (pick_held binary64 (lt x (neg most)) +0 _ (of_bits-fits binary64 0) (pick_held binary64 (lt (neg least) x && lt x least) one (within_of x) (of_bits-fits binary64 0x3ff0_0000_0000_0000) (within_double x))))
