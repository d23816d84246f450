-- The trial of a density: the tests of its pressure and its stiffness, and its verdict.
use Rattle.std.specs.Prelude.{not, ◌||◌, Float, Ok, Err}
use Rattle.std.specs.Float.Ieee.{lt, le}
use Rattle.std.specs.Float.Ieee.Scale.{finite}
use Rattle.numerics.specs.Double.{◌⊖◌, ◌⊘◌, +0, one, pick}
use Rattle.gerg_search.specs.Sample.{Sample}
use Rattle.gerg_refusals.specs.declared.Refusal.TheVariants as refusal

-- the larger of the target and 1 Pa
unfoldable pub scale_of : Float → Float
scale_of target = pick (lt target one) one target

-- "a density trial's pressure or stiffness nonfinite" (12), then "trial stiffness ≤ 0" (15), before the tolerance is looked at
unfoldable pub sample_of : Float → Float → Float → Sample
sample_of target p derivative =
    pick (not (finite p) || not (finite derivative)) (Err refusal.NotFinite)
    (pick (le derivative +0) (Err refusal.TrialUnstable) (Ok ((p ⊖ target) ⊘ scale_of target, derivative ⊘ scale_of target)))
