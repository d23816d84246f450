-- The saturation temperature of a mixture's model at a pressure.
use Rattle.std.specs.Prelude.{List, [], ℕ, Float, Err}
use Rattle.numerics.specs.Double.{pick}
use Rattle.gerg_tables.specs.declared.Tables.{Tables}
use Rattle.gerg_reducing.specs.declared.GergModel.{GergModel}
use Rattle.gerg.specs.declared.Range.{Range}
use Rattle.gerg_refusals.specs.declared.Refusal.TheVariants as refusal
use Rattle.gerg_saturation.specs.Answer.{Tried, Answer}
use Rattle.gerg_saturation.specs.Checks.{saturation_refused}
use Rattle.gerg_saturation.specs.Coexistence.{tried_of}
use Rattle.gerg_ph.specs.Sampling.{sample_of}
use Rattle.gerg_saturation.specs.Halvings.{search_of, trials_of}
use Rattle.interval.specs.declared.Interval.{Interval}

-- the verdict at a temperature
unfoldable pub verdict_at : Tables → GergModel → List (List Float) → Range → Float → Float → Tried
verdict_at t m gradients range pressure temperature = tried_of (sample_of t m gradients range pressure temperature)

abbrev pub interval_of : Float → Float → Interval
interval_of lo hi = record { lo = lo; hi = hi }

-- "25 stands before 20"
unfoldable pub pure_saturation_of : Tables → GergModel → List (List Float) → Range → Float → Float → Float → ℕ → Answer
pure_saturation_of t m gradients range pressure lo hi limit =
    pick (saturation_refused m lo hi) (Err refusal.NotPure) (search_of (verdict_at t m gradients range pressure) limit (interval_of lo hi))

-- the trials of the whole
unfoldable pub saturation_trials : Tables → GergModel → List (List Float) → Range → Float → Float → Float → ℕ → List Float
saturation_trials t m gradients range pressure lo hi limit =
    pick (saturation_refused m lo hi) [] (trials_of (verdict_at t m gradients range pressure) limit (interval_of lo hi))
