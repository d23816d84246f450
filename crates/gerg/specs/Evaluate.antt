-- The properties of a homogeneous state from its derivatives, and rows 10 to 12 in the Rust's order.
use Rattle.std.specs.Prelude.{Bool, not, ◌&&◌, ◌||◌, Float, Result, Ok, Err}
use Rattle.std.specs.Float.Ieee.{le, eq, neg}
use Rattle.std.specs.Float.Ieee.Scale.{finite}
use Rattle.numerics.specs.Double.{◌⊕◌, ◌⊖◌, ◌⊗◌, ◌⊘◌, bits, +0, one, two, pick}
use Rattle.elementary.specs.Power.{powi_byte_of}
use Rattle.elementary_sqrt.specs.Sqrt.{sqrt_of}
use Rattle.gerg_tables.specs.declared.Tables.{Tables}
use Rattle.gerg_reducing.specs.declared.GergModel.{GergModel}
use Rattle.gerg.specs.declared.GergState.{GergState}
use Rattle.gerg.specs.declared.Range.{Range}
use Rattle.gerg_derivatives.specs.declared.derivatives.GergDerivatives.{GergDerivatives}
use Rattle.gerg.specs.declared.evaluate.Parts.{Parts}
use Rattle.gerg.specs.Helmholtz.{helmholtz_of}
use Rattle.gerg_refusals.specs.Answer.{and_then}
use Rattle.gerg_refusals.specs.declared.Refusal.{Refusal}
use Rattle.gerg_refusals.specs.declared.Refusal.TheVariants as refusal

-- "R = 8.314472 everywhere"
abbrev pub gas_constant : Float
gas_constant = bits 0x4020_a102_7957_03f3

-- Z
unfoldable pub compressibility_of : GergDerivatives → Float
compressibility_of a = one ⊕ a.ar_d

-- "the state ((ρ × R) × T) × Z"
unfoldable pub pressure_of : GergDerivatives → Float → Float → Float
pressure_of a temperature rho = rho ⊗ gas_constant ⊗ temperature ⊗ compressibility_of a

-- "a trial is ρ × (R × T) × (1 + ar_d)"
unfoldable pub trial_pressure_of : GergDerivatives → Float → Float → Float
trial_pressure_of a temperature rho = rho ⊗ (gas_constant ⊗ temperature) ⊗ compressibility_of a

-- dp/drho, the stiffness
unfoldable pub stiffness_of : GergDerivatives → Float → Float
stiffness_of a temperature = gas_constant ⊗ temperature ⊗ (one ⊕ two ⊗ a.ar_d ⊕ a.ar_dd)

-- dp/dT
unfoldable pub pressure_slope_of : GergDerivatives → Float → Float
pressure_slope_of a rho = rho ⊗ gas_constant ⊗ (one ⊕ a.ar_d ⊖ a.ar_dt)

unfoldable pub cv_of : GergDerivatives → Float
cv_of a = neg gas_constant ⊗ (a.a0_tt ⊕ a.ar_tt)

-- cp of cv, dp/dT and the stiffness; the square is powi's with n = 2
unfoldable pub cp_of : Float → Float → Float → Float → Float → Float
cp_of temperature rho cv slope stiffness = cv ⊕ temperature ⊗ powi_byte_of (slope ⊘ rho) 2 ⊘ stiffness

unfoldable pub internal_energy_of : GergDerivatives → Float → Float
internal_energy_of a temperature = gas_constant ⊗ temperature ⊗ (a.a0_t ⊕ a.ar_t)

unfoldable pub helmholtz_energy_of : GergDerivatives → Float → Float
helmholtz_energy_of a temperature = gas_constant ⊗ temperature ⊗ (a.a0 ⊕ a.ar)

unfoldable pub entropy_of : GergDerivatives → Float
entropy_of a = gas_constant ⊗ (a.a0_t ⊕ a.ar_t ⊖ a.a0 ⊖ a.ar)

unfoldable pub speed_of_sound_of : Float → Float → Float → Float → Float
speed_of_sound_of cp cv stiffness mass = sqrt_of (cp ⊘ cv ⊗ stiffness ⊘ mass)

-- what several properties are made of
unfoldable pub parts_of : GergDerivatives → Float → Float → Parts
parts_of a temperature rho = record {
  pressure = pressure_of a temperature rho;
  stiffness = stiffness_of a temperature;
  slope = pressure_slope_of a rho;
  cv = cv_of a;
  cp = cp_of temperature rho (cv_of a) (pressure_slope_of a rho) (stiffness_of a temperature);
  internal_energy = internal_energy_of a temperature;
  helmholtz_energy = helmholtz_energy_of a temperature;
}

-- "The properties are the numbers in `GergState`", made of these
unfoldable pub state_from : GergDerivatives → Float → Float → Float → Parts → GergState
state_from a temperature rho mass p = record {
  temperature_k = temperature;
  molar_density = rho;
  mass_density = rho ⊗ mass;
  pressure_pa = p.pressure;
  compressibility = compressibility_of a;
  dp_drho = p.stiffness;
  dp_dt = p.slope;
  internal_energy = p.internal_energy;
  enthalpy = p.internal_energy ⊕ p.pressure ⊘ rho;
  entropy = entropy_of a;
  cv = p.cv;
  cp = p.cp;
  speed_of_sound = speed_of_sound_of p.cp p.cv p.stiffness mass;
  helmholtz_energy = p.helmholtz_energy;
  gibbs_energy = p.helmholtz_energy ⊕ p.pressure ⊘ rho;
  derivatives = a;
}

unfoldable pub state_of : GergDerivatives → Float → Float → Float → GergState
state_of a temperature rho mass = state_from a temperature rho mass (parts_of a temperature rho)

-- row 12: "cp, internal or Helmholtz energy, speed of sound, stiffness or dp/dT of a state .. nonfinite"
unfoldable pub finite_state : GergState → Bool
finite_state s =
    finite s.cp && finite s.internal_energy && finite s.helmholtz_energy && finite s.speed_of_sound &&
    finite s.dp_drho && finite s.dp_dt

-- row 10: "stiffness or cv ≤ 0"; a NaN passes here, as in the Rust
unfoldable pub unstable : GergDerivatives → Float → Bool
unstable a temperature = le (stiffness_of a temperature) +0 || le (cv_of a) +0

-- row 11: "pressure not in (0, 35e6]", the upper end as the range has it
unfoldable pub pressure_out : Float → Float → Bool
pressure_out high pressure = not (le +0 pressure && le pressure high) || eq pressure +0

-- rows 10, 11, 12, then the state
unfoldable pub admitted_of : GergDerivatives → Float → Float → Float → Float → Result GergState Refusal
admitted_of a temperature rho mass high =
    pick (unstable a temperature) (Err refusal.Unstable)
    (pick (pressure_out high (pressure_of a temperature rho)) (Err refusal.Pressure)
    (pick (finite_state (state_of a temperature rho mass)) (Ok (state_of a temperature rho mass)) (Err refusal.NotFinite)))

unfoldable pub admitted_answer : Float → Float → Float → Float → Result GergDerivatives Refusal → Result GergState Refusal
admitted_answer temperature rho mass high h = and_then h (λ a. admitted_of a temperature rho mass high)

-- rows 6 to 12
unfoldable pub evaluate_of : Tables → GergModel → Range → Float → Float → Result GergState Refusal
evaluate_of t m range temperature rho =
    admitted_answer temperature rho m.molar_mass range.pressure_high (helmholtz_of t m range temperature rho)
