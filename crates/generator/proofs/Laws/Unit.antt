-- The number u of a draw: exact, from 0 to below 1. Assumes nothing.
use Rattle.std.proofs.Common.{◌≡◌, ℕ, suc, ◌+◌, ◌*◌, ◌/◌, ◌^◌, ◌<◌, ◌≤◌, false, T, pos, sym, refl, ap, ◌∙◌, lt_of_lt_of_le, mul_assoc, mul-pos, mul_right_comm, arith, pow_pos, pow_mono, shl_lt, shr_lt}
use lib.Ieee.{Float, binary64, low, emax, of_int, of_bits, round}
use lib.Ieee.Back.{round_whole}
use lib.Ieee.Exact.{HasValue, round_exact}
use lib.Ieee.Positive.{num, den, positive, den_pos, value→cross}
use lib.Ieee.Scale.{round_same}
use Rattle.numerics.specs.Double.{◌⊘◌, bits}
use Rattle.numerics.specs.Nonneg.{nonneg_value, div_is0}
use Rattle.generator.specs.Generator.{unit_of}

-- 2^53
abbrev all : Float
all = bits 0x4340_0000_0000_0000

all_num : num all ≡ 2 ^ 53
unfolding of_bits
all_num = refl

all_den : den all ≡ 1
unfolding of_bits
all_den = refl

all_positive : T (positive all)
unfolding of_bits
all_positive = tt

whole_value : (n : ℕ) → n ≤ 2 ^ 53 → HasValue (of_int binary64 (pos n)) false n 1
unfolding of_int
whole_value n h = round_whole binary64 false n h

-- the quotient by 2^53 is one rounding of n / 2^53
quotient : (x : Float) (n : ℕ) → HasValue x false n 1 → x ⊘ all ≡ round binary64 false n (2 ^ 53)
quotient x n v =
    div_is0 binary64 x all (nonneg_value x n 1 v) all_positive
    ∙ round_same binary64 false (num x * den all) (num all * den x) n (2 ^ 53) (rw all_num (mul-pos (pow_pos 53) (den_pos x))) (pow_pos 53)
    (rw (all_num, all_den) (crossed (num x) (den x) n (2 ^ 53) (value→cross x n 1 v)))
  where
    crossed : (x d n p : ℕ) → x * 1 ≡ n * d → x * 1 * p ≡ n * (p * d)
    crossed x d n p e = ap (λ (k : ℕ). k * p) e ∙ mul_right_comm n d p ∙ mul_assoc n p d

-- "a number u in [0, 1)": the 53 bits are below 2^53
pub unit_below : (word : ℕ) → word < 2 ^ 64 → word / 2 ^ 11 < 2 ^ 53
unit_below word h = shr_lt 53 11 h

-- "u is exact": the top 53 bits over 2^53
pub unit_exact : (word : ℕ) → word < 2 ^ 64 → HasValue (unit_of word) false (word / 2 ^ 11) (2 ^ 53)
unfolding unit_of
unit_exact word h =
    let n = word / 2 ^ 11 in
    let b = unit_below word h in
    rw (quotient (of_int binary64 (pos n)) n (whole_value n (omega arith)))
    (round_exact binary64 false n (2 ^ 53) n 1021 (pow_pos 53) b (lt_of_lt_of_le (shl_lt 53 1021 b) (pow_mono {i = 53 + 1021} {j = low binary64 + suc (emax binary64)} (omega arith))) (sym (mul_assoc n (2 ^ 1021) (2 ^ 53))))
