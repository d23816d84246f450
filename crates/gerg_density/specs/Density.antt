-- The density search of a mixture: the verdict at a density, the search, and the state at an accepted density.
use Rattle.std.specs.Prelude.{ℕ, Bool, List, Float, Result, Ok, Err}
use Rattle.std.specs.Float.Ieee.{lt, neg}
use Rattle.numerics.specs.Double.{◌⊖◌, ◌⊘◌, +0, pick}
use Rattle.gerg_tables.specs.declared.Tables.{Tables}
use Rattle.gerg_reducing.specs.declared.GergModel.{GergModel}
use Rattle.gerg.specs.declared.GergState.{GergState}
use Rattle.gerg.specs.declared.Range.{Range}
use Rattle.gerg.specs.Helmholtz.{helmholtz_of}
use Rattle.gerg.specs.Evaluate.{evaluate_of, trial_pressure_of, stiffness_of}
use Rattle.gerg_density.specs.Trial.{scale_of, sample_of}
use Rattle.gerg_search.specs.Run.{outcome_of, trials_of}
use Rattle.interval.specs.declared.Interval.{Interval}
use Rattle.gerg_search.specs.declared.Options.{Options}
use Rattle.gerg_search.specs.Sample.{Sample}
use Rattle.gerg_search.specs.Sample.{Outcome}
use Rattle.gerg_density.specs.declared.DensityResult.{DensityResult}
use Rattle.gerg_derivatives.specs.declared.derivatives.GergDerivatives.{GergDerivatives}
use Rattle.gerg_refusals.specs.Answer.{and_then}
use Rattle.gerg_refusals.specs.declared.Refusal.{Refusal}
use Rattle.gerg_refusals.specs.declared.Refusal.TheVariants as refusal

-- the trial at a density: the derivatives' refusal, or what the trial makes of them
unfoldable pub trial_of : Float → Float → Float → Result GergDerivatives Refusal → Sample
trial_of temperature target rho h = and_then h (λ a. sample_of target (trial_pressure_of a temperature rho) (stiffness_of a temperature))

unfoldable pub verdict_of : Tables → GergModel → Range → Float → Float → Float → Sample
verdict_of t m range temperature target rho = trial_of temperature target rho (helmholtz_of t m range temperature rho)

-- rows 13 to 16, 18 and 19, and the trials; the pressure end is the range's
unfoldable pub search_of : Tables → GergModel → Range → Float → Float → Options → Outcome
search_of t m range temperature target o = outcome_of range.pressure_high target o (verdict_of t m range temperature target)

unfoldable pub density_trials : Tables → GergModel → Range → Float → Float → Options → List Float
density_trials t m range temperature target o = trials_of range.pressure_high target o (verdict_of t m range temperature target)

-- the state's own pressure: "One pressure formula for both .. Hence 17"
unfoldable pub residual_of : Float → GergState → Float
residual_of target s = (s.pressure_pa ⊖ target) ⊘ scale_of target

-- the size of the residual is above the tolerance
unfoldable pub beyond_of : Float → Float → Bool
beyond_of tolerance f = pick (lt f +0) (lt tolerance (neg f)) (lt tolerance f)

-- "final pressure check" (17)
unfoldable pub checked_of : Float → Options → ℕ → Interval → Result GergState Refusal → Result DensityResult Refusal
checked_of target o trials last state =
    and_then state (λ s.
    pick (beyond_of o.tolerance (residual_of target s)) (Err refusal.PressureCheck)
    (Ok (record { state = s; residual = residual_of target s; trials = trials; first = o.bracket; last = last })))

unfoldable pub finished_of : Tables → GergModel → Range → Float → Float → Options → Outcome → Result DensityResult Refusal
finished_of t m range temperature target o found = and_then found (λ f. checked_of target o f.trials f.bracket (evaluate_of t m range temperature f.density))

unfoldable pub density_of : Tables → GergModel → Range → Float → Float → Options → Result DensityResult Refusal
density_of t m range temperature target o = finished_of t m range temperature target o (search_of t m range temperature target o)
