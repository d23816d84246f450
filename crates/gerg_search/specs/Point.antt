-- The next density of a bracket.
use Rattle.std.specs.Prelude.{Bool, ◌&&◌, ◌||◌, Float}
use Rattle.std.specs.Float.Ieee.{lt, le, neg}
use Rattle.numerics.specs.Double.{◌⊕◌, ◌⊖◌, ◌⊗◌, ◌⊘◌, bits, +0, pick}
use Rattle.interval.specs.Interval.{middle_of}
use Rattle.interval.specs.declared.Interval.{Interval}

-- 0.1
abbrev pub tenth : Float
tenth = bits 0x3fb9_9999_9999_999a

abbrev pub margin_of : Interval → Float
margin_of b = tenth ⊗ (b.hi ⊖ b.lo)

-- "where it lies strictly inside by a tenth of the width"
unfoldable pub inside_of : Interval → Float → Bool
inside_of b x = lt (b.lo ⊕ margin_of b) x && lt x (b.hi ⊖ margin_of b)

-- "Newton's point where it lies strictly inside .., else the middle"
unfoldable pub next_of : Interval → Float → Float → Float → Float
next_of b rho f derivative = pick (inside_of b (rho ⊖ f ⊘ derivative)) (rho ⊖ f ⊘ derivative) (middle_of b)

-- "no double is then left between the ends": the next point is not strictly between them
unfoldable pub collapsed_at : Interval → Float → Bool
collapsed_at b x = le x b.lo || le b.hi x

-- the size of the residual is at most the tolerance
unfoldable pub within_of : Float → Float → Bool
within_of tolerance f = pick (lt f +0) (le (neg f) tolerance) (le f tolerance)
