-- The range in which exp takes its steps: the requires of the private `within`.
use Rattle.std.specs.Prelude.{◌*◌, ◌^◌, ◌≤◌, T, Float}
use Rattle.std.specs.Float.Ieee.Positive.{num, den}
use Rattle.std.specs.Float.Ieee.Scale.{finite}

-- what the tests of exp leave for the steps: from -700 to 700, and not smaller than 2 ^ -54
pub record InRange (x : Float) : Type 0 where
  pub number : T (finite x)
  pub most : num x ≤ 700 * den x
  pub least : den x ≤ num x * 2 ^ 54
