-- What is known at a density.
use Rattle.std.specs.Prelude.{Float, Result}
use Rattle.gerg_refusals.specs.declared.Refusal.{Refusal}

-- the pressure less the target, and the stiffness; or the refusal
abbrev pub Sample : Type 0
Sample = Result (Float × Float) Refusal
