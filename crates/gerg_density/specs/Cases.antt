-- The options of document 01's worked case of a density search.
use Rattle.std.specs.Prelude.{Float}
use Rattle.numerics.specs.Double.{+0}
use Rattle.gerg_search.specs.declared.Options.{Options}

-- "lo = hi, limit 0, tolerance 0"
abbrev pub empty_at : Float → Options
empty_at x = record { bracket = record { lo = x; hi = x }; limit = 0; tolerance = +0 }
