-- The steps of exp: "written down once in specs/, fix the bits of each answer" (document 01). Each ⊕ ⊖ ⊗ rounds once.
use Rattle.std.specs.Prelude.{ℕ, ◌+◌, ◌*◌, ◌/◌, ◌%◌, false, ◌&&◌, to_bits, Float}
use Rattle.std.specs.Float.{nan, inf, binary64}
use Rattle.std.specs.Float.Ieee.{neg, lt, ne}
use Rattle.numerics.specs.Double.{◌⊕◌, ◌⊖◌, ◌⊗◌, bits, +0, one, pick}
use Rattle.elementary_exp.specs.ExpTable.{entry_pattern}

-- the double nearest 64 / ln 2
abbrev pub steps_per_unit : Float
steps_per_unit = bits 0x4057_1547_652b_82fe

-- 131071.25: 2048 × 64, which keeps the count of steps positive, less three quarters, which keeps the remainder positive
abbrev pub shift : Float
shift = bits 0x40ff_fff4_0000_0000

-- 2 ^ 52: a sum with it is rounded to a whole number, which is the pattern's last 52 digits
abbrev pub rounder : Float
rounder = bits 0x4330_0000_0000_0000

-- 2 ^ 52 + 131072
abbrev pub origin : Float
origin = bits 0x4330_0000_0002_0000

-- ln 2 / 64 cut to 34 significant bits, and the double nearest the rest
abbrev pub step_high : Float
step_high = bits 0x3f86_2e42_fef8_0000

abbrev pub step_low : Float
step_low = bits 0x3d51_cf79_abc9_e3b4

-- reduction: x = (u − 131072) × ln 2 / 64 + r, with u the whole number in `counted_of x` and r from about 1/4 to 5/4 of ln 2 / 64
unfoldable pub counted_of : Float → Float
counted_of x = x ⊗ steps_per_unit ⊕ shift ⊕ rounder

unfoldable pub steps_of : Float → ℕ
steps_of w = to_bits binary64 w % 0x10_0000_0000_0000

unfoldable pub remainder_of : Float → Float → Float
remainder_of x w =
    let m = w ⊖ origin in
    x ⊖ m ⊗ step_high ⊖ m ⊗ step_low

-- the doubles nearest 1 / 2! to 1 / 6!
abbrev pub over2 : Float
over2 = bits 0x3fe0_0000_0000_0000

abbrev pub over6 : Float
over6 = bits 0x3fc5_5555_5555_5555

abbrev pub over24 : Float
over24 = bits 0x3fa5_5555_5555_5555

abbrev pub over120 : Float
over120 = bits 0x3f81_1111_1111_1111

abbrev pub over720 : Float
over720 = bits 0x3f56_c16c_16c1_6c17

-- polynomial: r + r² / 2 + .. + r⁶ / 720
unfoldable pub polynomial_of : Float → Float
polynomial_of r = r ⊗ (one ⊕ r ⊗ (over2 ⊕ r ⊗ (over6 ⊕ r ⊗ (over24 ⊕ r ⊗ (over120 ⊕ r ⊗ over720)))))

-- "form the exponent field by one addition" (request 04): 2 ^ (j / 64) × 2 ^ (n − 2048) for 1025 < n < 3072, n being added to the first twelve digits of entry j's pattern
unfoldable pub scaled_entry : ℕ → ℕ → Float
scaled_entry j n = bits ((entry_pattern j + n * 0x10_0000_0000_0000) % 0x1_0000_0000_0000_0000)

-- what the tests of `exp_of` leave: e ^ x by the steps above
unfoldable pub within_of : Float → Float
within_of x =
    let w = counted_of x in
    let t = scaled_entry (steps_of w % 64) (steps_of w / 64) in
    t ⊕ t ⊗ polynomial_of (remainder_of x w)

-- 700.0, and 2 ^ −54, below which e ^ x rounds to 1
abbrev pub most : Float
most = bits 0x4085_e000_0000_0000

abbrev pub least : Float
least = bits 0x3c90_0000_0000_0000

-- "Above 700 it gives +infinity, below −700 it gives +0", "exp(±0) = 1", "NaN included, gives NaN"
unfoldable pub exp_of : Float → Float
exp_of x =
    pick (ne x x) nan
    (pick (lt most x) (inf false)
    (pick (lt x (neg most)) +0
    (pick (lt (neg least) x && lt x least) one (within_of x))))
