-- A temperature is refused by one of the rows 6 to 23, with no value: the searches for roots by one before 23, and that there is no root. Assumes nothing.
use mathlib.Core.Path.{refl}
use mathlib.Core.Bool.{Bool, true, false}
use mathlib.Core.List.{List}
use Prim.Native.Nat.{ℕ}
use native.Mathlib.Omega.{arith}
use lib.Dec.{eqb}
use lib.Ieee.{Float}
use lib.ListN.{length}
use Rattle.std.specs.Prelude.{Ok, Err, IfErr}
use Rattle.std.proofs.lemmas.Result.{IfErr-weaker}
use Rattle.numerics.specs.Double.{pick}
use Rattle.gerg_refusals.specs.declared.Refusal.TheVariants as refusal
use Rattle.gerg_tables.specs.declared.Tables.{Tables}
use Rattle.gerg_reducing.specs.declared.GergModel.{GergModel}
use Rattle.gerg.specs.declared.Range.{Range}
use Rattle.gerg_root_list.specs.RootList.{Kept, beyond_five, within_envelope}
use Rattle.gerg_flash.specs.Roots.{searched_of}
use Rattle.gerg_flash.proofs.Laws.SearchedRows.{searched_rows}
use Rattle.gerg_saturation.specs.Answer.{Sample}
use Rattle.gerg_saturation.specs.Checks.{positive_place}
use Rattle.gerg_saturation.specs.declared.Exterior.{Exterior}
use Rattle.gerg_saturation.proofs.Laws.Reported.{Early}
use Rattle.gerg_saturation.proofs.Laws.Verdicts.{tried_refusal}
use Rattle.gerg_ph.specs.Sampling.{roots_sample, sample_of}
use Rattle.gerg_ph.specs.Saturation.{verdict_at}

roots_early : (reducing : Float) (place : ℕ) (temperature pressure : Float) (k : Kept) → IfErr k Early → IfErr (roots_sample reducing place temperature pressure k) Early
unfolding roots_sample
roots_early reducing place temperature pressure (Ok roots) p = go (eqb (length roots) 0) (eqb (length roots) 1) _ _
  where
    go : (a b : Bool) (single more : Exterior) → IfErr (pick a (Err refusal.NoRoot) (pick b (Ok single) (Ok more))) Early
    go true b single more = record { late = omega arith; most = omega arith; plain = refl }
    go false true single more = tt
    go false false single more = tt
roots_early reducing place temperature pressure (Err r) p = p

sample_early : (t : Tables) (m : GergModel) (gradients : List (List Float)) (range : Range) (pressure x : Float) → IfErr (sample_of t m gradients range pressure x) Early
unfolding sample_of
sample_early t m gradients range pressure x =
    go (beyond_five m) (within_envelope x pressure) (roots_sample m.reducing_density (positive_place m) x pressure (searched_of t m gradients range x pressure))
    (roots_early m.reducing_density (positive_place m) x pressure (searched_of t m gradients range x pressure) (IfErr-weaker (searched_of t m gradients range x pressure) _ Early (λ r p. let most = p.1 in record { late = p.0; most = omega arith; plain = p.2 }) (searched_rows t m gradients range x pressure)))
  where
    go : (a b : Bool) (s : Sample) → IfErr s Early → IfErr (pick a (Err refusal.BeyondFive) (pick b s (Err refusal.OutsideEnvelope))) Early
    go true b s p = record { late = omega arith; most = omega arith; plain = refl }
    go false true s p = p
    go false false s p = record { late = omega arith; most = omega arith; plain = refl }

pub verdict_early : (t : Tables) (m : GergModel) (gradients : List (List Float)) (range : Range) (pressure x : Float) → IfErr (verdict_at t m gradients range pressure x) Early
unfolding verdict_at
verdict_early t m gradients range pressure x = tried_refusal Early (sample_of t m gradients range pressure x) (sample_early t m gradients range pressure x)
