-- What is tested before a density is tried: rows 13 and 14.
use Rattle.std.specs.Prelude.{Bool, not, ◌||◌, eqb, Float}
use Rattle.std.specs.Float.Ieee.{lt, le}
use Rattle.std.specs.Float.Ieee.Scale.{finite}
use Rattle.numerics.specs.Double.{bits, +0}
use Rattle.gerg_search.specs.declared.Options.{Options}

-- 1e-3 and 30000 mol/m³, 1e-7
abbrev pub least_density : Float
least_density = bits 0x3f50_624d_d2f1_a9fc

abbrev pub most_density : Float
most_density = bits 0x40dd_4c00_0000_0000

abbrev pub most_tolerance : Float
most_tolerance = bits 0x3e7a_d7f2_9abc_af48

-- "bracket, limit or tolerance (as the Rust's first test)": row 13
unfoldable pub options_refused : Options → Bool
options_refused o =
    not (finite o.bracket.lo)
    || not (finite o.bracket.hi)
    || le o.bracket.hi o.bracket.lo
    || lt o.bracket.lo least_density
    || lt most_density o.bracket.hi
    || eqb o.limit 0
    || not (finite o.tolerance)
    || le o.tolerance +0
    || lt most_tolerance o.tolerance

-- "target nonfinite, ≤ 0 or > 35e6": row 14. `high` is the pressure end of the range, 35e6 in the normal one
unfoldable pub target_refused : Float → Float → Bool
target_refused high target = not (finite target) || le target +0 || lt high target
