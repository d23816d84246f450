-- sqrt: "the nearest double; ±0 and +infinity give themselves". The significand's root by its binary digits, the exponent halved. elementary_distance proves that no double is nearer to the exact root.
use Rattle.std.specs.Prelude.{cond, ◌||◌, ℕ, zero, suc, ◌+◌, ◌-◌, ◌*◌, ◌/◌, ◌%◌, ◌^◌, leb, ltb, Float}
use Rattle.std.specs.Int.Count.{count_leading_zeros}
use Rattle.std.specs.Float.{nan, binary64}
use Rattle.std.specs.Float.Ieee.{lt, eq, to_bits}
use Rattle.numerics.specs.Double.{+0, bits, pick, greatest, positive_finite}

-- one binary digit more of the root of n, below the digits q
unfoldable pub with_digit : ℕ → ℕ → ℕ
with_digit n q = cond (leb ((2 * q + 1) * (2 * q + 1)) n) (2 * q + 1) (2 * q)

-- the greatest q with q × q ≤ n, for an n below 4 ^ d, by its d binary digits
unfoldable pub root_of : ℕ → ℕ → ℕ
root_of zero n = 0
root_of (suc d) n = with_digit n (root_of d (n / 4))

-- the whole number nearest to the root of n, for an n below 4 ^ 53: the root's digit below the point rounds it
unfoldable pub nearest_root : ℕ → ℕ
nearest_root n = (root_of 54 (4 * n) + 1) / 2

-- how far a subnormal's digits are moved up for bit 52 to be set
unfoldable pub shift_of : ℕ → ℕ
shift_of b = count_leading_zeros 64 b - 11

-- a positive pattern's significand, from 2 ^ 52 to below 2 ^ 53, and 1023 more than its exponent's field
unfoldable pub significand_of : ℕ → ℕ
significand_of b = pick (ltb b (2 ^ 52)) (b * 2 ^ shift_of b) (2 ^ 52 + b % 2 ^ 52)

unfoldable pub exponent_of : ℕ → ℕ
exponent_of b = pick (ltb b (2 ^ 52)) (1024 - shift_of b) (b / 2 ^ 52 + 1023)

-- the pattern of the root: the exponent is halved, and an odd one goes to the significand
unfoldable pub root_bits : ℕ → ℕ
root_bits b = (exponent_of b / 2 - 1) * 2 ^ 52 + nearest_root (significand_of b * 2 ^ (52 + exponent_of b % 2))

-- "the nearest double; ±0 and +infinity give themselves", "all else gives NaN"
unfoldable pub sqrt_of : Float → Float
sqrt_of x = pick (positive_finite x) (bits (root_bits (to_bits binary64 x))) (pick (eq x +0 || lt greatest x) x nan)
