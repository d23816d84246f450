-- The sample of an isotherm at a density: `sample` of gerg_outer_roots.
use Rattle.std.specs.Prelude.{Float, Result, Ok}
use Rattle.numerics.specs.Double.{◌⊖◌}
use Rattle.gerg_refusals.specs.Answer.{and_then}
use Rattle.gerg_refusals.specs.declared.Refusal.{Refusal}
use Rattle.gerg_tables.specs.declared.Tables.{Tables}
use Rattle.gerg_reducing.specs.declared.GergModel.{GergModel}
use Rattle.gerg.specs.declared.Range.{Range}
use Rattle.gerg_derivatives.specs.declared.derivatives.GergDerivatives.{GergDerivatives}
use Rattle.gerg.specs.Evaluate.{trial_pressure_of, stiffness_of}
use Rattle.gerg.specs.Helmholtz.{helmholtz_of}
use Rattle.gerg_scan_steps.specs.Sample.{Sample}

-- rho × rt × (1 + ar_d) − target, and rt × (1 + 2 ar_d + ar_dd), rt being R × T
unfoldable pub sample_from : Float → Float → Float → GergDerivatives → Float × Float
sample_from temperature target rho a = (trial_pressure_of a temperature rho ⊖ target, stiffness_of a temperature)

unfoldable pub sample_by : Float → Float → Float → Result GergDerivatives Refusal → Sample
sample_by temperature target rho h = and_then h (λ a. Ok (sample_from temperature target rho a))

unfoldable pub sample_of : Tables → GergModel → Range → Float → Float → Float → Sample
sample_of t m range temperature target rho = sample_by temperature target rho (helmholtz_of t m range temperature rho)
