-- NaN as code meets it: a value that differs from itself. `Tests` has the laws of tests, two of which are passed on. Assumes nothing.
use Rattle.std.specs.Prelude.{◌≡◌, refl, true, false, not, T, Float}
use Rattle.std.proofs.Common.{sym, ap, subst, ◌∙◌}
use Rattle.std.specs.Float.{nan, inf, fin}
use Rattle.std.specs.Float.Ieee.{ne, is_nan}
use Rattle.std.specs.Float.Ieee.Compare.{differs_from_itself}
use Rattle.numerics.specs.Finite.{eq_self}
pub use Rattle.numerics.specs.Finite.{nan_is}
pub use Rattle.numerics.specs.Tests.{holds, or_false}

-- what `x != x` says
pub differs : (x : Float) → ne x x ≡ true → x ≡ nan
differs x e = differs_from_itself x (holds (ne x x) e)

pub itself : (x : Float) → is_nan x ≡ false → ne x x ≡ false
unfolding ne
itself x n = ap not (eq_self x ∙ ap not n)

pub is_nan_lem : (x : Float) → is_nan x ≡ true → x ≡ nan
unfolding is_nan
is_nan_lem nan e = refl
is_nan_lem (inf s) e = absurd (subst T (sym e) tt)
is_nan_lem (fin s m d) e = absurd (subst T (sym e) tt)
