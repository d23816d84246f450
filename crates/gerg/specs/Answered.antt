-- What rows 10 to 12 leave of an answered state.
use Rattle.std.specs.Prelude.{◌≡◌, T, Float}
use Rattle.std.specs.Float.Ieee.{lt, le}
use Rattle.std.specs.Float.Ieee.Positive.{positive}
use Rattle.numerics.specs.Double.{+0}
use Rattle.gerg.specs.declared.GergState.{GergState}
use Rattle.gerg.specs.declared.Range.{Range}

-- the density asked for, the pressure in (0, the range's upper end], the stiffness and cv finite and above zero
pub record Answered (range : Range) (rho : Float) (s : GergState) : Type 0 where
  pub density : s.molar_density ≡ rho
  pub pressure_above : T (lt +0 s.pressure_pa)
  pub pressure_at_most : T (le s.pressure_pa range.pressure_high)
  pub stiffness : T (positive s.dp_drho)
  pub cv : T (positive s.cv)
