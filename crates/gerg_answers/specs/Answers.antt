-- What the C exports make of an answer: a code of its number and value, and the doubles that an accepted one leaves in lent memory.
use Rattle.std.specs.Prelude.{ℕ, List, [], ◌∷◌, ◌++◌, pos, Float, Result, Ok, Err, Option, Some, None}
use Rattle.std.specs.Float.{binary64}
use Rattle.std.specs.Float.Ieee.{of_int}
use Rattle.gerg_refusals.specs.Answer.{number_of, value_of, memory_of}
use Rattle.gerg_refusals.specs.Code.{code_of}
use Rattle.gerg_refusals.specs.Refusal as of_refusal
use Rattle.gerg_refusals.specs.declared.Refusal.{Refusal}
use Rattle.gerg.specs.declared.GergState.{GergState}
use Rattle.gerg_density.specs.declared.DensityResult.{DensityResult}
use Rattle.gerg_saturation.specs.declared.PureSaturation.{PureSaturation}

-- of an answer that reports nothing beside number 0
unfoldable pub accepted_code : {A : Type 0} → Result A Refusal → ℕ
accepted_code a = code_of (number_of a) (value_of a)

-- "the answer is the number of roots", and of a list the records read or the bytes written: beside number 0; beside a refusal's number its value
abbrev pub reported : Result ℕ Refusal → ℕ
reported (Ok n) = n
reported (Err r) = of_refusal.value_of r

-- found: 1 beside number 0; "not enclosed" is no refusal: 0; beside a refusal's number its value
abbrev pub saturation_reported : Result (Option PureSaturation) Refusal → ℕ
saturation_reported (Ok (Some s)) = 1
saturation_reported (Ok None) = 0
saturation_reported (Err r) = of_refusal.value_of r

unfoldable pub saturation_code : Result (Option PureSaturation) Refusal → ℕ
saturation_code a = code_of (number_of a) (saturation_reported a)

-- the 24 numbers of a state, in the order of `GergState` and `GergDerivatives`
unfoldable pub numbers_of : GergState → List Float
numbers_of s =
    s.temperature_k ∷ s.molar_density ∷ s.mass_density ∷ s.pressure_pa ∷ s.compressibility ∷ s.dp_drho ∷ s.dp_dt
    ∷ s.internal_energy ∷ s.enthalpy ∷ s.entropy ∷ s.cv ∷ s.cp ∷ s.speed_of_sound ∷ s.helmholtz_energy ∷ s.gibbs_energy
    ∷ s.derivatives.ar ∷ s.derivatives.ar_d ∷ s.derivatives.ar_dd ∷ s.derivatives.ar_t ∷ s.derivatives.ar_tt
    ∷ s.derivatives.ar_dt ∷ s.derivatives.a0 ∷ s.derivatives.a0_t ∷ s.derivatives.a0_tt ∷ []

-- "Every row leaves all lent memory as it was": what an answer leaves in 24 lent doubles, a state's numbers or what was lent
unfoldable pub properties_written : Result GergState Refusal → List Float → List Float
properties_written a out = memory_of a out numbers_of

-- the state's 24 numbers, the residual, the trials, the first bracket, the last bracket
unfoldable pub density_numbers : DensityResult → List Float
density_numbers r =
    numbers_of r.state
    ++ (r.residual ∷ of_int binary64 (pos r.trials) ∷ r.first.lo ∷ r.first.hi ∷ r.last.lo ∷ r.last.hi ∷ [])

-- 30 lent doubles afterwards
unfoldable pub density_written : Result DensityResult Refusal → List Float → List Float
density_written a out = memory_of a out density_numbers

-- "the numbers of `PureSaturation`", in its order
unfoldable pub saturation_numbers : PureSaturation → List Float
saturation_numbers s =
    s.temperature_k ∷ s.pressure_pa ∷ s.liquid_compressibility ∷ s.vapor_compressibility ∷ s.liquid_molar_volume ∷ s.vapor_molar_volume
    ∷ s.ln_fugacity_coefficient ∷ s.fugacity_residual ∷ of_int binary64 (pos s.iterations) ∷ []

-- "not enclosed" leaves lent memory too
abbrev pub found_written : Option PureSaturation → List Float → List Float
found_written (Some s) out = saturation_numbers s
found_written None out = out

-- nine lent doubles afterwards
unfoldable pub saturation_written : Result (Option PureSaturation) Refusal → List Float → List Float
saturation_written a out = memory_of a out (λ found. found_written found out)
