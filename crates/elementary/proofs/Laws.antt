-- What the definitions give at single arguments, and what the layers above may cite of the elementary functions without their steps. Laws that rest on a
-- distance (signs, finite answers) are in elementary_distance, module Signs. Assumes nothing.
use mathlib.Core.Path.{◌≡◌, refl, ap}
use mathlib.Core.Bool.{true, false}
use lib.Dec.{T}
use lib.IntN.{pos}
use lib.Ieee.{Float, nan, inf, binary64, lt, eq, ne, neg, add, sub, mul, div, of_bits, to_bits}
use lib.Ieee.Positive.{positive}
use Rattle.numerics.specs.Double.{+0, one, positive_finite}
use Rattle.numerics.specs.Order.{below_minus}
use Rattle.elementary_exp.specs.Exp.{exp_of}
use Rattle.elementary_ln.specs.Ln.{ln_of}
use Rattle.elementary.specs.Power.{powf_of, powf_from, powi_of, power_of}
use Rattle.elementary.specs.Hyperbolic.{sinh_of, cosh_of, tanh_of, twenty}
use Rattle.elementary.proofs.PowerSteps.{power_ends}

-- ---- powf and powi
-- "1 for exponent 0", also with the logarithm of x at hand
pub powf_from_zero : (x l t : Float) → eq t +0 ≡ true → powf_from x l t ≡ one
unfolding powf_from
powf_from_zero x l t e = rw e

pub powf_zero : (x t : Float) → eq t +0 ≡ true → powf_of x t ≡ one
unfolding powf_of
powf_zero x t e = powf_from_zero x _ t e

-- "else exp(t × ln x) for x positive and finite", also with the logarithm of x at hand
pub powf_from_positive : (x l t : Float) → eq t +0 ≡ false → positive_finite x ≡ true → powf_from x l t ≡ exp_of (mul binary64 t l)
unfolding powf_from
powf_from_positive x l t e p = rw (e, p)

pub powf_positive : (x t : Float) → eq t +0 ≡ false → positive_finite x ≡ true → powf_of x t ≡ exp_of (mul binary64 t (ln_of x))
unfolding powf_of
powf_positive x t e p = powf_from_positive x (ln_of x) t e p

-- "all else gives NaN"
pub powf_else : (x t : Float) → eq t +0 ≡ false → positive_finite x ≡ false → powf_of x t ≡ nan
unfolding powf_of powf_from
powf_else x t e p = rw (e, p)

-- with the logarithm of x at hand it is powf
pub powf_from_ln : (x l t : Float) → l ≡ ln_of x → powf_from x l t ≡ powf_of x t
unfolding powf_of
powf_from_ln x l t e = ap (λ (k : Float). powf_from x k t) e

pub powi_zero : (x : Float) → powi_of x (pos 0) ≡ one
unfolding powi_of power_of
powi_zero x = power_ends 32 one x

-- ---- sinh and cosh: half of the sum or difference of an infinity and 0
pub sinh_infinity : sinh_of (inf false) ≡ inf false
unfolding sinh_of exp_of lt ne eq neg add sub mul of_bits
sinh_infinity = refl

pub sinh_minus_infinity : sinh_of (inf true) ≡ inf true
unfolding sinh_of exp_of lt ne eq neg add sub mul of_bits
sinh_minus_infinity = refl

pub cosh_infinity : cosh_of (inf false) ≡ inf false
unfolding cosh_of exp_of lt ne eq neg add mul of_bits
cosh_infinity = refl

pub cosh_minus_infinity : cosh_of (inf true) ≡ inf false
unfolding cosh_of exp_of lt ne eq neg add mul of_bits
cosh_minus_infinity = refl

-- at ±0 the difference is +0
pub sinh_zero : sinh_of +0 ≡ +0
unfolding sinh_of exp_of lt ne eq neg add sub mul of_bits
sinh_zero = refl

pub sinh_minus_zero : sinh_of (neg +0) ≡ +0
unfolding sinh_of exp_of lt ne eq neg add sub mul of_bits
sinh_minus_zero = refl

pub cosh_zero : cosh_of +0 ≡ one
unfolding cosh_of exp_of lt ne eq neg add mul of_bits
cosh_zero = refl

pub cosh_minus_zero : cosh_of (neg +0) ≡ one
unfolding cosh_of exp_of lt ne eq neg add mul of_bits
cosh_minus_zero = refl

-- ---- tanh: "±1 beyond |v| = 20"
pub tanh_above : (v : Float) → lt twenty v ≡ true → tanh_of v ≡ one
unfolding tanh_of
tanh_above v e = rw e

twenty_positive : T (positive twenty)
unfolding of_bits
twenty_positive = tt

pub tanh_below : (v : Float) → lt v (neg twenty) ≡ true → tanh_of v ≡ neg one
unfolding tanh_of
tanh_below v e = rw (below_minus twenty v twenty_positive e, e)

pub tanh_infinity : tanh_of (inf false) ≡ one
unfolding tanh_of lt of_bits
tanh_infinity = refl

pub tanh_minus_infinity : tanh_of (inf true) ≡ neg one
unfolding tanh_of lt neg of_bits
tanh_minus_infinity = refl

-- the quotient of +0 and 1, at either zero
pub tanh_zero : tanh_of +0 ≡ +0
unfolding tanh_of sinh_of cosh_of exp_of lt ne eq neg add sub mul div of_bits
tanh_zero = refl

pub tanh_minus_zero : tanh_of (neg +0) ≡ +0
unfolding tanh_of sinh_of cosh_of exp_of lt ne eq neg add sub mul div of_bits
tanh_minus_zero = refl

-- "All else, NaN included, gives NaN"
pub sinh_nan : sinh_of nan ≡ nan
unfolding sinh_of exp_of ne eq neg add sub mul of_bits
sinh_nan = refl

pub cosh_nan : cosh_of nan ≡ nan
unfolding cosh_of exp_of ne eq neg add mul of_bits
cosh_nan = refl

pub tanh_nan : tanh_of nan ≡ nan
unfolding tanh_of sinh_of cosh_of exp_of lt ne eq neg add sub mul div of_bits
tanh_nan = refl

-- ---- the pattern of the format's NaN. The logic has this one; what a compiled operation leaves in the sign and the digits of a NaN no contract can say, so each export ends in `quieted`, whose quotient of
-- literals the compiler folds to this pattern (docs/DECISIONS.md, "NaN's bits"; tests/elementary runs every path).
pub nan_pattern : to_bits binary64 nan ≡ 0x7ff8_0000_0000_0000
unfolding to_bits
nan_pattern = refl
