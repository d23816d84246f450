-- What a trial and a search answer.
use Rattle.std.specs.Prelude.{Float, Result}
use Rattle.gerg_refusals.specs.declared.Refusal.{Refusal}
use Rattle.gerg_search.specs.declared.Found.{Found}

-- the verdict of a trial at a density: the scaled residual and the scaled derivative, or its refusal
abbrev pub Sample : Type 0
Sample = Result (Float × Float) Refusal

-- how a search ends
abbrev pub Outcome : Type 0
Outcome = Result Found Refusal
