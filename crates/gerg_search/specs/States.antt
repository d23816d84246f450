-- The states of a search, one for each tried density, and the ends that a trial leaves.
use Rattle.std.specs.Prelude.{ℕ, zero, suc, T, Float}
use Rattle.std.specs.Float.{binary64}
use Rattle.std.specs.Float.Ieee.{fits, lt}
use Rattle.interval.specs.Interval.{narrowed_of}
use Rattle.gerg_search.specs.Steps.{begin_of, step_of, moved_of}
use Rattle.gerg_search.specs.Run.{on_try}
use Rattle.interval.specs.declared.Interval.{Interval}
use Rattle.gerg_search.specs.declared.Options.{Options}
use Rattle.gerg_search.specs.Sample.{Sample}
use Rattle.gerg_search.specs.declared.Search.{Search}

-- the ends are doubles, as every f64 is
pub record Doubles (o : Options) : Type 0 where
  pub lo : T (fits binary64 o.bracket.lo)
  pub hi : T (fits binary64 o.bracket.hi)

-- "Neighbouring doubles have no double between them"
abbrev pub NoneBetween : Float → Float → Type 0
NoneBetween low high = (y : Float) → T (fits binary64 y) → T (lt low y) → T (lt y high) → ⊥

-- the state of a search after n steps; the state whose step ends the search stays
unfoldable pub state_after : Options → (Float → Sample) → ℕ → Search
state_after o v zero = begin_of o
state_after o v (suc n) = on_try (step_of o (state_after o v n) (v (state_after o v n).density)) (moved_of (state_after o v n) (v (state_after o v n).density)) (state_after o v n)

-- the ends that the trial of s leaves, f being its residual: it "takes the place of the end on its side of the target"
abbrev pub left_by : Search → Float → Interval
left_by s f = narrowed_of s.bracket s.density f
