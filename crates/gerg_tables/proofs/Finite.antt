-- std's test for a finite double says what `finite` says. Assumes nothing.
use mathlib.Core.Path.{◌≡◌, refl}
use lib.Ieee.{Float, nan, inf, fin}
use Rattle.std.specs.Float.{float_is_finite}
use Rattle.std.specs.Float.Ieee.Scale.{finite}

pub is_finite : (x : Float) → float_is_finite x ≡ finite x
unfolding float_is_finite
is_finite nan = refl
is_finite (inf s) = refl
is_finite (fin s m e) = refl
