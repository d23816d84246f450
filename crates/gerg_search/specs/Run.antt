-- The run of a search: the list of its trials, the state in which it ends, and its outcome. `v` gives the verdict at each density.
use Rattle.std.specs.Prelude.{List, [], ◌∷◌, ℕ, zero, suc, Float, length, ◌||◌, Ok, Err}
use Rattle.numerics.specs.Double.{pick}
use Rattle.gerg_search.specs.Checks.{options_refused, target_refused}
use Rattle.gerg_search.specs.Stop.{refusal_of}
use Rattle.gerg_search.specs.Steps.{begin_of, step_of, moved_of}
use Rattle.interval.specs.declared.Interval.{Interval}
use Rattle.gerg_search.specs.declared.Options.{Options}
use Rattle.gerg_search.specs.Sample.{Sample}
use Rattle.gerg_search.specs.declared.Stage.{Stage}
use Rattle.gerg_search.specs.declared.Stage.TheVariants.{Low, High, Interior}
use Rattle.gerg_search.specs.declared.Search.{Search}
use Rattle.gerg_search.specs.declared.Step.{Step}
use Rattle.gerg_search.specs.declared.Step.TheVariants.{Try, Accepted, Refused}
use Rattle.gerg_search.specs.Sample.{Outcome}
use Rattle.gerg_refusals.specs.declared.Refusal.TheVariants as refusal

-- by the answer of a step: what follows a `Try`, and what stands where the search ends
abbrev pub on_try : {A : Type 0} → Step → (Float → A) → A → A
on_try (Try x) go end = go x
on_try (Accepted x) go end = end
on_try (Refused c) go end = end

-- an interior density is a trial, an end is none
abbrev pub counted : Stage → Float → List Float → List Float
counted Low x rest = rest
counted High x rest = rest
counted Interior x rest = x ∷ rest

-- "Trials are the list of interior densities tried, as the search's inputs and these steps give it": from the state s on, n steps at most
unfoldable pub trials_from : Options → (Float → Sample) → ℕ → Search → List Float
trials_from o v zero s = []
trials_from o v (suc n) s =
    counted s.stage s.density
    (on_try (step_of o s (v s.density)) (λ x. trials_from o v n (moved_of s (v s.density) x)) [])

-- the state whose step ends the search
unfoldable pub last_from : Options → (Float → Sample) → ℕ → Search → Search
last_from o v zero s = s
last_from o v (suc n) s = on_try (step_of o s (v s.density)) (λ x. last_from o v n (moved_of s (v s.density) x)) s

-- both ends and as many interior trials as the limit: a search has no more steps
abbrev pub steps : Options → ℕ
steps o = suc (suc o.limit)

unfoldable pub searched : Options → (Float → Sample) → List Float
searched o v = trials_from o v (steps o) (begin_of o)

unfoldable pub last_of : Options → (Float → Sample) → Search
last_of o v = last_from o v (steps o) (begin_of o)

unfoldable pub answer_of : Options → (Float → Sample) → Step
answer_of o v = step_of o (last_of o v) (v (last_of o v).density)

-- "The reported count is the list's length"; the last bracket is the one before the trial that was accepted. (No search ends in a `Try`.)
unfoldable pub reported : Step → ℕ → Interval → Outcome
reported (Try x) trials b = Err refusal.NotBracketed
reported (Accepted x) trials b = Ok (record { density = x; trials = trials; bracket = b })
reported (Refused c) trials b = Err (refusal_of c trials)

-- rows 13 and 14, then the search
unfoldable pub outcome_of : Float → Float → Options → (Float → Sample) → Outcome
outcome_of high target o v =
    pick (options_refused o) (Err refusal.Options)
    (pick (target_refused high target) (Err refusal.Target)
    (reported (answer_of o v) (length (searched o v)) (last_of o v).bracket))

-- the trials of the whole: none where the search is not begun
unfoldable pub trials_of : Float → Float → Options → (Float → Sample) → List Float
trials_of high target o v = pick (options_refused o || target_refused high target) [] (searched o v)
