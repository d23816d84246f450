-- The numbers that stand in a coefficient file. A file is a list of numbers below 256; past its end `byte` is 0.
use Rattle.std.specs.Prelude.{List, ℕ, ◌+◌, ◌*◌, get_or, Float}
use Rattle.numerics.specs.Double.{bits}

-- "Integers are one byte"
abbrev pub byte : List ℕ → ℕ → ℕ
byte s at = get_or s at 0

-- kpol + kexp, or kpolij + kexpij: the two counts that stand from `at` on, together
abbrev pub term_count : List ℕ → ℕ → ℕ
term_count s at = byte s at + byte s (at + 1)

-- the 8 bytes from `at` on as a number, the lowest first
abbrev pub word : List ℕ → ℕ → ℕ
word s at =
    byte s at
    + 256 * (byte s (at + 1)
    + 256 * (byte s (at + 2)
    + 256 * (byte s (at + 3)
    + 256 * (byte s (at + 4) + 256 * (byte s (at + 5) + 256 * (byte s (at + 6) + 256 * byte s (at + 7)))))))

-- "doubles are 8 bytes, little-endian"; each bit pattern of a NaN is the one NaN
unfoldable pub double_at : List ℕ → ℕ → Float
double_at s at = bits (word s at)
