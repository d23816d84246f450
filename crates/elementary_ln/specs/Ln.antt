-- The steps of ln, which fix the bits of each answer (document 01, "Elementary functions").
use Rattle.std.specs.Prelude.{true, false, ℕ, ◌+◌, ◌-◌, ◌*◌, ◌/◌, ◌%◌, ◌^◌, ltb, pos, Float, get_or}
use Rattle.std.specs.Int.Count.{count_leading_zeros}
use Rattle.std.specs.Float.{nan, inf, binary64}
use Rattle.std.specs.Float.Ieee.{of_int, to_bits, le, eq}
use Rattle.numerics.specs.Double.{◌⊕◌, ◌⊖◌, ◌⊗◌, ◌⊘◌, bits, +0, two, pick}
use Rattle.elementary_ln.specs.LnTable.{log_table}

-- the double nearest ln (1 + i / 128)
unfoldable pub log_node : ℕ → Float
log_node i = bits (get_or log_table i 0)

-- 1 + t / 2^52
abbrev pub significand : ℕ → Float
significand t = bits (t + 0x3ff0_0000_0000_0000)

-- the doubles nearest ln 2, 2/3, 2/5 and 2/7
-- 0.6931471805599453
abbrev pub ln2 : Float
ln2 = bits 0x3fe6_2e42_fefa_39ef

-- 0.6666666666666666
abbrev pub two_thirds : Float
two_thirds = bits 0x3fe5_5555_5555_5555

-- 0.4
abbrev pub two_fifths : Float
two_fifths = bits 0x3fd9_9999_9999_999a

-- 0.2857142857142857
abbrev pub two_sevenths : Float
two_sevenths = bits 0x3fd2_4924_9249_2492

-- 1087.0
abbrev pub bias : Float
bias = bits 0x4090_fc00_0000_0000

-- s (2 + z (2/3 + z (2/5 + z 2/7))), z = s s: the terms of ln ((1 + s) / (1 - s)) up to s^7
unfoldable pub ln_ratio : Float → Float
ln_ratio s =
    let z = s ⊗ s in
    s ⊗ (two ⊕ z ⊗ (two_thirds ⊕ z ⊗ (two_fifths ⊕ z ⊗ two_sevenths)))

-- ln m for m = 1 + t / 2^52, by the node c = 1 + i / 128 next below it: ln c + ln ((1 + s) / (1 - s)), s = (m - c) / (m + c)
unfoldable pub ln_significand : ℕ → Float
ln_significand t =
    let i = t / 2 ^ 45 in
    let m = significand t in
    let c = significand (i * 2 ^ 45) in
    log_node i ⊕ ln_ratio ((m ⊖ c) ⊘ (m ⊕ c))

-- ln (2^k m) = k ln 2 + ln m; e is k + 1087, which is a natural number for the least subnormal too
unfoldable pub ln_parts : ℕ → ℕ → Float
ln_parts e t = (of_int binary64 (pos e) ⊖ bias) ⊗ ln2 ⊕ ln_significand t

-- from the bit pattern b of a positive finite double; "a subnormal is first scaled by the place of its highest set bit"
unfoldable pub ln_pattern : ℕ → Float
ln_pattern b =
    let z = count_leading_zeros 64 b in
    pick (ltb b (2 ^ 52)) (ln_parts (76 - z) (b * 2 ^ (z - 11) - 2 ^ 52)) (ln_parts (b / 2 ^ 52 + 64) (b % 2 ^ 52))

-- ln x: "±0 gives −infinity, +infinity itself", "all else, NaN included, gives NaN"
unfoldable pub ln_of : Float → Float
ln_of x = pick (le +0 x) (pick (eq x +0) (inf true) (pick (eq x (inf false)) x (ln_pattern (to_bits binary64 x)))) nan
