-- The words of the demands about the public calls: what the promises (proofs/Promises) say of a call in a range.
use Rattle.std.specs.Prelude.{◌≡◌, false, List, ℕ, ◌+◌, ◌*◌, T, pos, Float, length, get_or, Ok}
use Rattle.std.specs.Float.{binary64, nan}
use Rattle.std.specs.Float.Ieee.{of_int, lt, le}
use Rattle.std.specs.Float.Ieee.Positive.{positive}
use Rattle.numerics.specs.Double.{+0}
use Rattle.gerg_coefficients.specs.Answer.{tables_of}
use Rattle.gerg.specs.declared.Range.{Range}
use Rattle.gerg_density.specs.declared.DensityResult.{DensityResult}
use Rattle.gerg_search.specs.declared.Options.{Options}
use Rattle.gerg_density.specs.Density.{density_trials, residual_of, beyond_of}
use Rattle.gerg_density.specs.Promised as search
use Rattle.gerg_refusals.specs.Answer.{number_of}
use Rattle.gerg_prepared.specs.Mixed.{mixed_of}
use Rattle.gerg_prepared.specs.declared.Mixed.{Mixed}
use Rattle.gerg_calls.specs.Calls.{properties_in, density_trials_in}

-- 35 MPa, the pressure end of the normal range, and 70 MPa, that of the extended one
abbrev pub 35_MPa : Float
35_MPa = of_int binary64 (pos 35_000_000)

abbrev pub 70_MPa : Float
70_MPa = of_int binary64 (pos 70_000_000)

-- rows 1 to 5 refuse nothing
abbrev pub Prepared : List ℕ → List ℕ → List Float → Type 0
Prepared bytes list fractions = number_of (mixed_of bytes list fractions) ≡ 0

-- "Each root writes density, pressure, Z, Gibbs energy, then the coefficients": the density of root i in the lent memory
abbrev pub written_density : List ℕ → List Float → ℕ → Float
written_density list memory i = get_or memory (i * (4 + length list)) nan

module _ (bytes list : List ℕ) (fractions : List Float) (range : Range) (temperature target : Float) (o : Options) where
  -- "An accepted density lies in the given bracket, ends allowed; its state's pressure is in (0, 35 MPa] and meets the tolerance as row 17 tests it; its stiffness and cv are positive"; in the extended range "with 70 MPa as its pressure end". The state is what `properties` answers at that density; `positive` is finite and above zero
  pub record AcceptedDensity (r : DensityResult) : Type 0 where
    pub from : T (le o.bracket.lo r.state.molar_density)
    pub to : T (le r.state.molar_density o.bracket.hi)
    pub state : properties_in bytes list fractions range temperature r.state.molar_density ≡ Ok r.state
    pub pressure_above : T (lt +0 r.state.pressure_pa)
    pub pressure_at_most : T (le r.state.pressure_pa range.pressure_high)
    pub check : beyond_of o.tolerance (residual_of target r.state) ≡ false
    pub stiffness : T (positive r.state.dp_drho)
    pub cv : T (positive r.state.cv)
    pub trials : r.trials ≡ length (density_trials_in bytes list fractions range temperature target o)
    pub first : r.first ≡ o.bracket

  -- row 18: "two neighbouring doubles were both tried in that search, neither within the tolerance, the computed pressure of one below the target and of the other above it"; the search is the one that the call makes past rows 1 to 5
  pub record CollapsedCall : Type 0 where
    pub mixture : Mixed
    pub prepared : mixed_of bytes list fractions ≡ Ok mixture
    pub list_is : density_trials_in bytes list fractions range temperature target o ≡ density_trials (tables_of bytes) mixture.model range temperature target o
    pub collapsed : search.Collapsed (tables_of bytes) mixture.model range temperature target o

  -- row 19: "as many trials as the limit and a double still between the ends"
  pub record LimitedCall : Type 0 where
    pub mixture : Mixed
    pub prepared : mixed_of bytes list fractions ≡ Ok mixture
    pub list_is : density_trials_in bytes list fractions range temperature target o ≡ density_trials (tables_of bytes) mixture.model range temperature target o
    pub limited : search.Limited (tables_of bytes) mixture.model range temperature target o

  -- 18's other direction: "where no double is then left between the ends" after a trial of that search that neither accepts nor refuses
  pub record ExhaustedCall : Type 0 where
    pub mixture : Mixed
    pub prepared : mixed_of bytes list fractions ≡ Ok mixture
    pub exhausted : search.Exhausted (tables_of bytes) mixture.model range temperature target o
