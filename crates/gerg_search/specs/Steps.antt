-- One step of a search: the verdict at the density being tried, and what to do next. `o` is what the caller chose, `s` the state.
use Rattle.std.specs.Prelude.{ℕ, ◌+◌, ◌||◌, leb, Float, Ok, Err}
use Rattle.std.specs.Float.Ieee.{lt}
use Rattle.numerics.specs.Double.{+0, pick}
use Rattle.gerg_search.specs.Point.{next_of, collapsed_at, within_of}
use Rattle.interval.specs.Interval.{middle_of, narrowed_of}
use Rattle.interval.specs.declared.Interval.{Interval}
use Rattle.gerg_search.specs.declared.Options.{Options}
use Rattle.gerg_search.specs.Sample.{Sample}
use Rattle.gerg_search.specs.declared.Stage.{Stage}
use Rattle.gerg_search.specs.declared.Stage.TheVariants.{Low, High, Interior}
use Rattle.gerg_search.specs.declared.Search.{Search}
use Rattle.gerg_search.specs.declared.Step.{Step}
use Rattle.gerg_search.specs.declared.Step.TheVariants.{Try, Accepted, Refused}
use Rattle.gerg_search.specs.declared.Stop.TheVariants as stop

-- "Ends are tried first, low then high"
unfoldable pub begin_of : Options → Search
begin_of o = record { stage = Low; density = o.bracket.lo; bracket = o.bracket; low_residual = +0; trials = 0 }

-- "collapsed (row 18), before the limit is looked at" (row 19)
unfoldable pub go_on_of : ℕ → ℕ → Interval → Float → Step
go_on_of limit trials b x = pick (collapsed_at b x) (Refused stop.Collapsed) (pick (leb limit trials) (Refused stop.LimitReached) (Try x))

-- an interior trial: accepted within the tolerance, else on with the narrowed bracket and its next point
unfoldable pub interior_of : Options → Search → Float → Float → Step
interior_of o s f derivative =
    pick (within_of o.tolerance f) (Accepted s.density)
    (go_on_of o.limit s.trials (narrowed_of s.bracket s.density f) (next_of (narrowed_of s.bracket s.density f) s.density f derivative))

-- both ends are worked out before either is accepted; then "target not bracketed" (row 16); "the first interior trial is the middle"
unfoldable pub ends_of : Options → Float → Float → Step
ends_of o flo fhi =
    pick (within_of o.tolerance flo) (Accepted o.bracket.lo)
    (pick (within_of o.tolerance fhi) (Accepted o.bracket.hi)
    (pick (lt +0 flo || lt fhi +0) (Refused stop.NotBracketed) (Try (middle_of o.bracket))))

-- by which density is being tried
unfoldable pub stage_of : Options → Search → Float → Float → Stage → Step
stage_of o s f derivative Low = Try o.bracket.hi
stage_of o s f derivative High = ends_of o s.low_residual f
stage_of o s f derivative Interior = interior_of o s f derivative

-- "Each step's answer is one of three: try this density, accepted at this density, refused"
unfoldable pub step_of : Options → Search → Sample → Step
step_of o s (Ok (f, derivative)) = stage_of o s f derivative s.stage
step_of o s (Err r) = Refused (stop.Trial r)

-- the state in which x, the density that the step said, is tried
unfoldable pub moved_by : Search → Float → Float → Stage → Search
moved_by s f x Low = record { stage = High; density = x; bracket = s.bracket; low_residual = f; trials = s.trials }
moved_by s f x High = record { stage = Interior; density = x; bracket = s.bracket; low_residual = s.low_residual; trials = s.trials + 1 }
moved_by s f x Interior = record { stage = Interior; density = x; bracket = narrowed_of s.bracket s.density f; low_residual = s.low_residual; trials = s.trials + 1 }

-- (after a refusal there is none: the state stays)
unfoldable pub moved_of : Search → Sample → Float → Search
moved_of s (Ok (f, derivative)) x = moved_by s f x s.stage
moved_of s (Err r) x = s
