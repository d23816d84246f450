-- The search after rows 13 and 14.
use Rattle.std.specs.Prelude.{◌≡◌, ◌^◌, ◌<◌, false, Float, length}
use Rattle.gerg_tables.specs.declared.Tables.{Tables}
use Rattle.gerg_reducing.specs.declared.GergModel.{GergModel}
use Rattle.gerg.specs.declared.Range.{Range}
use Rattle.gerg_search.specs.States.{Doubles}
use Rattle.gerg_search.specs.Checks.{options_refused, target_refused}
use Rattle.gerg_search.specs.Run.{searched, last_of, answer_of, reported}
use Rattle.gerg_search.specs.declared.Options.{Options}
use Rattle.gerg_search.specs.Sample.{Outcome}
use Rattle.gerg_density.specs.Density.{verdict_of}

-- past rows 13 and 14, of doubles and a machine's number
pub record Ready (high target : Float) (o : Options) : Type 0 where
  pub doubles : Doubles o
  pub fits : o.limit < 2 ^ 64
  pub bracketed : options_refused o ≡ false
  pub reachable : target_refused high target ≡ false

-- the search itself, after rows 13 and 14
unfoldable pub run_of : Tables → GergModel → Range → Float → Float → Options → Outcome
run_of t m range temperature target o =
    reported (answer_of o (verdict_of t m range temperature target)) (length (searched o (verdict_of t m range temperature target)))
    (last_of o (verdict_of t m range temperature target)).bracket
