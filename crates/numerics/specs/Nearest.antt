-- "The double nearest to" a fraction, said with fractions of whole numbers: definitions only.
use Rattle.std.specs.Prelude.{true, ◌⊎◌, ◌≡◌, ◌+◌, ◌*◌, T, Float}
use Rattle.std.proofs.Common.{mul-pos}
use Rattle.std.specs.Float.{binary64}
use Rattle.std.specs.Float.Ieee.{lt, fits}
use Rattle.std.specs.Float.Ieee.Scale.{finite}
use Rattle.numerics.specs.Fraction.{Frac, ◌⊏◌}
use Rattle.numerics.specs.Exponential.{signed, size}

-- |q - y| for a fraction q and a finite double y
abbrev pub apart : Frac → Float → Frac
apart q y =
    let v = signed y in
    size (record { plus = q.top * v.bot + v.minus * q.bot; minus = v.plus * q.bot; bot = q.bot * v.bot; good = mul-pos q.good v.good })

-- y is a finite double, and nearer to q than every other finite double z, so that no tie happens
pub record Nearest (q : Frac) (y : Float) : Type 0 where
  pub double : T (fits binary64 y)
  pub number : T (finite y)
  pub nearer : (z : Float) → T (fits binary64 z) → T (finite z) → (lt y z ≡ true) ⊎ (lt z y ≡ true) → apart q y ⊏ apart q z
