-- The result of an operation is within 2 ^ -53 of the exact one, relatively, with its sign, where the exact result is at least 2 ^ -1022 and the result is finite. Assumes nothing.
use Rattle.std.specs.Prelude.{◌*◌, ◌^◌, ◌≤◌, T}
use lib.Ieee.{Float}
use Rattle.std.specs.Float.Ieee.Scale.{finite}
use Rattle.numerics.specs.Rounding.{Operation, apply, exact_sign, exact_top, exact_bot, exact, Defined, is_rounded, Rounded, round_unit}

pub within_unit : (o : Operation) (x y : Float) → T (finite x) → T (finite y) → (d : Defined o y) → exact_bot o x y ≤ exact_top o x y * 2 ^ 1022 → T (finite (apply o x y))
    → Rounded (exact_sign o x y) (exact o x y d) (apply o x y)
within_unit o x y p q d n t = rw (is_rounded o x y p q d) (round_unit (exact_sign o x y) (exact o x y d) n (rw (is_rounded o x y p q d) at t))
