-- What is tested before a temperature is tried: row 25.
use Rattle.std.specs.Prelude.{Bool, not, ◌||◌, ℕ, ◌+◌, eqb, Float, get_or}
use Rattle.std.specs.Float.{nan}
use Rattle.std.specs.Float.Ieee.{lt}
use Rattle.std.specs.Float.Ieee.Scale.{finite}
use Rattle.numerics.specs.Double.{+0, pick}
use Rattle.numerics.specs.Iterate.{iter}
use Rattle.gerg_reducing.specs.declared.GergModel.{GergModel}

-- the fraction at place k of the list
unfoldable pub fraction_at : GergModel → ℕ → Float
fraction_at m k = get_or m.fractions (get_or m.component_indices k 0) nan

-- how many fractions of the list are positive
unfoldable pub positive_fractions : GergModel → ℕ
positive_fractions m = iter (λ k n. pick (lt +0 (fraction_at m k)) (n + 1) n) m.components 0

-- the place in the list of the positive fraction (the last one where there are more)
unfoldable pub positive_place : GergModel → ℕ
positive_place m = iter (λ k place. pick (lt +0 (fraction_at m k)) k place) m.components 0

-- "saturation: not one positive fraction, or ends nonfinite or not rising": row 25. n is the number of positive fractions
unfoldable pub refused_by : ℕ → Float → Float → Bool
refused_by n lo hi = not (eqb n 1) || not (finite lo) || not (finite hi) || not (lt lo hi)

unfoldable pub saturation_refused : GergModel → Float → Float → Bool
saturation_refused m lo hi = refused_by (positive_fractions m) lo hi
