-- The refusal that a search reports of the step that ended it.
use Rattle.std.specs.Prelude.{ℕ}
use Rattle.gerg_refusals.specs.declared.Refusal.{Refusal}
use Rattle.gerg_refusals.specs.declared.Refusal.TheVariants as refusal
use Rattle.gerg_search.specs.declared.Stop.{Stop}
use Rattle.gerg_search.specs.declared.Stop.TheVariants as stop

-- "18 .. trials, 19 .. trials"
abbrev pub refusal_of : Stop → ℕ → Refusal
refusal_of (stop.Trial r) trials = r
refusal_of stop.NotBracketed trials = refusal.NotBracketed
refusal_of stop.Collapsed trials = refusal.Collapsed trials
refusal_of stop.LimitReached trials = refusal.LimitReached trials
