-- Short names for the binary64 operations, so that a formula in a definition reads like the formula. Each is an `abbrev`: a contract written with them is the logic's own term, and nothing has to be unfolded. The logic's `add`, `mul`, .. stay shut.
use Rattle.std.specs.Prelude.{Bool, true, false, ◌&&◌, Float, ℕ}
use Rattle.std.specs.Float.{binary64}
use Rattle.std.specs.Float.Ieee.{lt, le, add, sub, mul, div, of_bits}

infixl 6 ◌⊕◌ ◌⊖◌
infixl 7 ◌⊗◌ ◌⊘◌
-- each rounds once, to nearest, ties to even
abbrev pub ◌⊕◌ : Float → Float → Float
x ⊕ y = add binary64 x y

abbrev pub ◌⊖◌ : Float → Float → Float
x ⊖ y = sub binary64 x y

abbrev pub ◌⊗◌ : Float → Float → Float
x ⊗ y = mul binary64 x y

abbrev pub ◌⊘◌ : Float → Float → Float
x ⊘ y = div binary64 x y

-- the double of a bit pattern
abbrev pub bits : ℕ → Float
bits n = of_bits binary64 n

-- 0.0
abbrev pub +0 : Float
+0 = bits 0

-- 0.5
abbrev pub half : Float
half = bits 0x3fe0_0000_0000_0000

-- 1.0
abbrev pub one : Float
one = bits 0x3ff0_0000_0000_0000

-- 2.0
abbrev pub two : Float
two = bits 0x4000_0000_0000_0000

-- by the Bool of a test, of any type
abbrev pub pick : {A : Type 0} → Bool → A → A → A
pick true a b = a
pick false a b = b

-- the greatest finite double
abbrev pub greatest : Float
greatest = bits 0x7fef_ffff_ffff_ffff

-- "positive and finite"
abbrev pub positive_finite : Float → Bool
positive_finite x = lt +0 x && le x greatest
