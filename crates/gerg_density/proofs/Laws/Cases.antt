-- Document 01's worked case of a density search, for every mixture. Assumes nothing.
use mathlib.Core.Path.{◌≡◌, refl, ap}
use mathlib.Core.Bool.{Bool, true, false, not, ◌||◌}
use lib.Ieee.{Float, lt, le}
use lib.Ieee.Scale.{finite}
use Rattle.numerics.specs.Double.{+0}
use Rattle.gerg_tables.specs.declared.Tables.{Tables}
use Rattle.gerg_reducing.specs.declared.GergModel.{GergModel}
use Rattle.gerg.specs.declared.Range.{Range}
use Rattle.gerg_search.specs.Checks.{options_refused, least_density, most_density, most_tolerance}
use Rattle.gerg_search.specs.Run.{outcome_of}
use Rattle.gerg_density.specs.Density.{search_of, finished_of, density_of}
use Rattle.gerg_refusals.specs.Answer.{number_of, value_of}
use Rattle.gerg_density.specs.Cases.{empty_at}
use Rattle.gerg_search.specs.Sample.{Outcome}
use Rattle.std.specs.Prelude.{Err}
use Rattle.gerg_refusals.specs.declared.Refusal.TheVariants as refusal

or_true : (a b c d : Bool) → (a || true || b || c || d) ≡ true
or_true true b c d = refl
or_true false b c d = refl

-- the limit alone refuses
refused : (x : Float) → options_refused (empty_at x) ≡ true
unfolding options_refused
refused x = or_true (not (finite x) || not (finite x) || le x x || lt x least_density || lt most_density x) (not (finite +0)) (le +0 +0) (lt most_tolerance +0)

-- "lo = hi, limit 0, tolerance 0: 13", whatever the density and the rest
pub case_13 : (t : Tables) (m : GergModel) (range : Range) (temperature target x : Float) → (number_of (density_of t m range temperature target (empty_at x)) ≡ 13) × (value_of (density_of t m range temperature target (empty_at x)) ≡ 0)
unfolding density_of finished_of search_of outcome_of
case_13 t m range temperature target x = (ap (λ (w : Outcome). number_of (finished_of t m range temperature target (empty_at x) w)) searched, ap (λ (w : Outcome). value_of (finished_of t m range temperature target (empty_at x) w)) searched)
  where
    searched : search_of t m range temperature target (empty_at x) ≡ Err refusal.Options
    searched = rw (refused x)
