-- A search begins with no trial, and a step adds one at most.
use Rattle.std.proofs.Common.{◌≡◌, refl, arith, ◌+◌, ◌≤◌, Float}
use Rattle.std.specs.Prelude.{Ok, Err}
use Rattle.gerg_search.specs.Steps.{begin_of, moved_by, moved_of}
use Rattle.gerg_search.specs.declared.Options.{Options}
use Rattle.gerg_search.specs.Sample.{Sample}
use Rattle.gerg_search.specs.declared.Search.{Search}
use Rattle.gerg_search.specs.declared.Stage.{Stage}
use Rattle.gerg_search.specs.declared.Stage.TheVariants.{Low, High, Interior}

pub none_begun : (o : Options) → (begin_of o).trials ≡ 0
unfolding begin_of
none_begun o = refl

by_stage : (s : Search) (f x : Float) (stage : Stage) → (moved_by s f x stage).trials ≤ s.trials + 1
unfolding moved_by
by_stage s f x Low = omega arith
by_stage s f x High = omega arith
by_stage s f x Interior = omega arith

pub one_more : (s : Search) (y : Sample) (x : Float) → (moved_of s y x).trials ≤ s.trials + 1
unfolding moved_of
one_more s (Ok (f, derivative)) x = by_stage s f x s.stage
one_more s (Err r) x = omega arith
