-- powf and powi.
use Rattle.std.specs.Prelude.{cond, ℕ, zero, suc, ◌-◌, ◌%◌, ◌/◌, eqb, ltb, Float, ℤ, pos, negsuc}
use Rattle.std.specs.Float.{nan, binary64}
use Rattle.std.specs.Float.Ieee.{eq, of_int}
use Rattle.numerics.specs.Double.{◌⊗◌, ◌⊘◌, +0, one, pick, positive_finite}
use Rattle.elementary_exp.specs.Exp.{exp_of}
use Rattle.elementary_ln.specs.Ln.{ln_of}

-- "1 for exponent 0, else exp(t × ln x) for x positive and finite"; "all else gives NaN": l stands in the place of ln x
unfoldable pub powf_from : Float → Float → Float → Float
powf_from x l t = pick (eq t +0) one (pick (positive_finite x) (exp_of (t ⊗ l)) nan)

-- with ln x itself
unfoldable pub powf_of : Float → Float → Float
powf_of x t = powf_from x (ln_of x) t

-- "for each binary digit of |n| from the lowest, r = r × b where it is 1, then b = b × b", with so many digits of n left
unfoldable pub power_from : ℕ → Float → Float → ℕ → Float
power_from zero r b n = r
power_from (suc k) r b n = power_from k (cond (eqb (n % 2) 1) (r ⊗ b) r) (b ⊗ b) (n / 2)

-- "r = 1, b = x", for n below 2 ^ 32
unfoldable pub power_of : Float → ℕ → Float
power_of x n = power_from 32 one x n

-- "a negative n gives 1/r"
unfoldable pub powi_of : Float → ℤ → Float
powi_of x (pos n) = power_of x n
powi_of x (negsuc n) = one ⊘ power_of x (suc n)

-- a byte as a signed number, "those marked s signed"
unfoldable pub signed_of : ℕ → ℤ
signed_of b = pick (ltb b 128) (pos b) (negsuc (255 - b))

-- x to that number, and that number as a double
abbrev pub powi_byte_of : Float → ℕ → Float
powi_byte_of x b = powi_of x (signed_of b)

abbrev pub signed_double_of : ℕ → Float
signed_double_of b = of_int binary64 (signed_of b)
