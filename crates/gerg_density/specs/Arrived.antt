-- What holds of an accepted density.
use Rattle.std.specs.Prelude.{◌≡◌, false, T, Float, length, Ok}
use Rattle.std.specs.Float.Ieee.{lt, le}
use Rattle.std.specs.Float.Ieee.Positive.{positive}
use Rattle.numerics.specs.Double.{+0}
use Rattle.gerg_tables.specs.declared.Tables.{Tables}
use Rattle.gerg_reducing.specs.declared.GergModel.{GergModel}
use Rattle.gerg.specs.declared.Range.{Range}
use Rattle.gerg.specs.Evaluate.{evaluate_of}
use Rattle.gerg_density.specs.Density.{density_trials, residual_of, beyond_of}
use Rattle.gerg_search.specs.declared.Options.{Options}
use Rattle.gerg_density.specs.declared.DensityResult.{DensityResult}

module _ (t : Tables) (m : GergModel) (range : Range) (temperature target : Float) (o : Options) where
  -- an accepted density: in the bracket that the call was given; "The pressure, stiffness and cv of an accepted density are those of its `GergState`, and that pressure meets the tolerance
  -- as row 17's check tests it". `positive` is finite and above zero
  pub record Arrived (r : DensityResult) : Type 0 where
    pub density : Float
    pub from : T (le o.bracket.lo density)
    pub to : T (le density o.bracket.hi)
    pub state : evaluate_of t m range temperature density ≡ Ok r.state
    pub reported : r.state.molar_density ≡ density
    pub pressure_above : T (lt +0 r.state.pressure_pa)
    pub pressure_at_most : T (le r.state.pressure_pa range.pressure_high)
    pub stiffness : T (positive r.state.dp_drho)
    pub cv : T (positive r.state.cv)
    pub check : beyond_of o.tolerance (residual_of target r.state) ≡ false
    pub residual : r.residual ≡ residual_of target r.state
    pub trials : r.trials ≡ length (density_trials t m range temperature target o)
    pub first : r.first ≡ o.bracket
