-- What a temperature and a search for saturation answer.
use Rattle.std.specs.Prelude.{Option, Result}
use Rattle.gerg_refusals.specs.declared.Refusal.{Refusal}
use Rattle.gerg_saturation.specs.declared.Exterior.{Exterior}
use Rattle.gerg_saturation.specs.declared.PureSaturation.{PureSaturation}
use Rattle.gerg_saturation.specs.declared.Verdict.{Verdict}

-- the exterior roots at a temperature
abbrev pub Sample : Type 0
Sample = Result Exterior Refusal

-- what a temperature says
abbrev pub Tried : Type 0
Tried = Result Verdict Refusal

-- a saturation, or none where the ends enclose none: "not enclosed" is no refusal
abbrev pub Answer : Type 0
Answer = Result (Option PureSaturation) Refusal
