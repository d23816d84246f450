-- Which patterns are no NaN's, and what the quotients of literals are. Assumes nothing.
use Rattle.std.specs.Prelude.{◌≡◌, refl, true, false, not, ℕ, ◌%◌, ◌≤◌, T, pos}
use Rattle.std.proofs.Common.{◌∙◌, le→leb, le-ltb}
use Rattle.std.specs.Float.{nan, inf, binary64}
use Rattle.std.specs.Float.Ieee.{div, neg, of_bits, nan_bits, in_float}
use Rattle.std.specs.Float.Ieee.Bits.{nan_bits_above}

pub no_nan : (n : ℕ) → n % 0x8000_0000_0000_0000 ≤ 0x7ff0_0000_0000_0000 → T (not (nan_bits binary64 n))
no_nan n h = rw (nan_bits_above binary64 n ∙ le-ltb _ _ h) tt

-- what `0.0 / 0.0` and `-1.0 / 0.0` are
pub zero_over_zero : div binary64 (of_bits binary64 0) (of_bits binary64 0) ≡ nan
unfolding div of_bits
zero_over_zero = refl

pub one_over_zero : div binary64 (of_bits binary64 0x3ff0_0000_0000_0000) (of_bits binary64 0) ≡ inf false
unfolding div of_bits
one_over_zero = refl

pub minus_one_over_zero : div binary64 (neg (of_bits binary64 0x3ff0_0000_0000_0000)) (of_bits binary64 0) ≡ inf true
unfolding div of_bits neg
minus_one_over_zero = refl

-- a whole number up to 2^53 is a double
pub whole_double : (n : ℕ) → n ≤ 0x20_0000_0000_0000 → T (in_float binary64 (pos n))
unfolding in_float
whole_double n h = le→leb n 0x20_0000_0000_0000 h
