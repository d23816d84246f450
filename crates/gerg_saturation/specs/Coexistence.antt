-- What one or two exterior roots tell of saturation, and when a saturation is accepted.
use Rattle.std.specs.Prelude.{List, ℕ, Float, get_or}
use Rattle.std.specs.Float.{nan}
use Rattle.std.specs.Float.Ieee.{lt, le, eq, neg}
use Rattle.numerics.specs.Double.{◌⊖◌, ◌⊘◌, bits, +0, one, pick}
use Rattle.gerg_scan_steps.specs.Answers.{mapped}
use Rattle.gerg_root_list.specs.declared.Root.{Root}
use Rattle.gerg_saturation.specs.Answer.{Sample, Tried}
use Rattle.gerg_saturation.specs.declared.Exterior.{Exterior}
use Rattle.gerg_saturation.specs.declared.Exterior.TheVariants.{Single, Coexisting}
use Rattle.gerg_saturation.specs.declared.PureSaturation.{PureSaturation}
use Rattle.gerg_saturation.specs.declared.Verdict.{Verdict}
use Rattle.gerg_saturation.specs.declared.Verdict.TheVariants.{Accepted, Apart}

-- |x|: of either zero +0
unfoldable pub magnitude_of : Float → Float
magnitude_of x = pick (lt x +0) (neg x) (pick (eq x +0) +0 x)

-- the sign of a single root: −1 for a liquid, denser than the reducing density, else 1
unfoldable pub sign_of : Float → List Float → Float
sign_of reducing-density head = pick (lt reducing-density (get_or head 0 nan)) (neg one) one

-- "gives the numbers of `PureSaturation` (saturation.rs)", from the numbers of the two roots (density, pressure, Z, Gibbs energy) and their ln φ
unfoldable pub saturation_of : Float → Float → List Float → Float → List Float → Float → PureSaturation
saturation_of temperature pressure liquid liquid-ln-phi vapor vapor-ln-phi = record {
  temperature_k = temperature;
  pressure_pa = pressure;
  liquid_compressibility = get_or liquid 2 nan;
  vapor_compressibility = get_or vapor 2 nan;
  liquid_molar_volume = one ⊘ get_or liquid 0 nan;
  vapor_molar_volume = one ⊘ get_or vapor 0 nan;
  ln_fugacity_coefficient = vapor-ln-phi;
  fugacity_residual = magnitude_of (liquid-ln-phi ⊖ vapor-ln-phi);
  iterations = 0;
}

-- the difference is that of the liquid's ln φ and the vapor's at `place`, which is the positive fraction's
unfoldable pub coexisting_of : ℕ → Float → Float → Root → Root → Exterior
coexisting_of place temperature pressure liquid vapor =
    Coexisting (get_or liquid.coefficients place nan ⊖ get_or vapor.coefficients place nan)
    (saturation_of temperature pressure liquid.head (get_or liquid.coefficients place nan) vapor.head (get_or vapor.coefficients place nan))

-- 1e-12
abbrev pub most_residual : Float
most_residual = bits 0x3d71_9799_812d_ea11

-- accepted: a saturation whose residual is at most 1e-12
unfoldable pub verdict_of : Exterior → Verdict
verdict_of (Single sign) = Apart sign
verdict_of (Coexisting difference s) = pick (le s.fugacity_residual most_residual) (Accepted s) (Apart difference)

-- what a temperature says by its sample
unfoldable pub tried_of : Sample → Tried
tried_of sample = mapped verdict_of sample
