-- The rows before the roots of a sample. Assumes nothing.
use mathlib.Core.Path.{◌≡◌}
use mathlib.Core.Bool.{true, false}
use mathlib.Core.List.{List}
use Prim.Native.Nat.{ℕ}
use lib.Ieee.{Float}
use Rattle.std.specs.Prelude.{Err}
use Rattle.gerg_refusals.specs.declared.Refusal.TheVariants as refusal
use Rattle.gerg_tables.specs.declared.Tables.{Tables}
use Rattle.gerg_reducing.specs.declared.GergModel.{GergModel}
use Rattle.gerg.specs.declared.Range.{Range}
use Rattle.gerg_root_list.specs.RootList.{beyond_five, within_envelope}
use Rattle.gerg_flash.specs.Roots.{searched_of}
use Rattle.gerg_saturation.specs.Checks.{positive_place}
use Rattle.gerg_ph.specs.Sampling.{roots_sample, sample_of}

module _ (t : Tables) (m : GergModel) (gradients : List (List Float)) (range : Range) (pressure temperature : Float) where
  pub sample_beyond : beyond_five m ≡ true → Err refusal.BeyondFive ≡ sample_of t m gradients range pressure temperature
  unfolding sample_of
  sample_beyond b = rw b

  pub sample_outside : beyond_five m ≡ false → within_envelope temperature pressure ≡ false → Err refusal.OutsideEnvelope ≡ sample_of t m gradients range pressure temperature
  unfolding sample_of
  sample_outside b w = rw (b, w)

  pub sample_inside : (place : ℕ) → beyond_five m ≡ false → within_envelope temperature pressure ≡ true → place ≡ positive_place m → roots_sample m.reducing_density place temperature pressure (searched_of t m gradients range temperature pressure) ≡ sample_of t m gradients range pressure temperature
  unfolding sample_of
  sample_inside place b w e = rw (b, w, e)
