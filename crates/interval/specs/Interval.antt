-- The middle of an interval, and the interval that a point leaves.
use Rattle.std.specs.Prelude.{Bool, ◌||◌, Float}
use Rattle.std.specs.Float.Ieee.{lt, eq}
use Rattle.numerics.specs.Double.{+0, pick}
use Rattle.numerics.specs.Middle.{middle}
use Rattle.interval.specs.declared.Interval.{Interval}

-- "the middle"
abbrev pub middle_of : Interval → Float
middle_of b = middle b.lo b.hi

-- "the middle falls on an end": a point is one of the ends
unfoldable pub on_end : Interval → Float → Bool
on_end b x = eq x b.lo || eq x b.hi

-- "takes the place of the end on its side of the target": of the low end where the difference at x is below zero, else of the high end
unfoldable pub narrowed_of : Interval → Float → Float → Interval
narrowed_of b x difference = pick (lt difference +0) (record { lo = x; hi = b.hi }) (record { lo = b.lo; hi = x })
