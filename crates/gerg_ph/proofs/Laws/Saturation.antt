-- The ways of the rows that need no root, and of the search after them. Assumes nothing.
use mathlib.Core.Path.{◌≡◌, refl, sym, ap, ◌∙◌}
use mathlib.Core.Bool.{Bool, true, false}
use mathlib.Core.List.{List}
use Prim.Native.Nat.{ℕ}
use lib.Ieee.{Float}
use Rattle.std.specs.Prelude.{Ok, Err}
use Rattle.numerics.specs.Double.{pick}
use Rattle.gerg_refusals.specs.Answer.{passed}
use Rattle.gerg_refusals.specs.declared.Refusal.{Refusal}
use Rattle.gerg_refusals.specs.declared.Refusal.TheVariants as refusal
use Rattle.gerg_tables.specs.declared.Tables.{Tables}
use Rattle.gerg_reducing.specs.declared.GergModel.{GergModel}
use Rattle.gerg.specs.declared.Range.{Range}
use Rattle.gerg_root_list.specs.RootList.{beyond_five, within_envelope}
use Rattle.gerg_saturation.specs.Checks.{positive_fractions, refused_by, saturation_refused}
use Rattle.gerg_saturation.specs.Coexistence.{tried_of}
use Rattle.gerg_saturation.specs.Halvings.{search_of}
use Rattle.gerg_saturation.proofs.Laws.Halvings.{low_refused}
use Rattle.gerg_saturation.proofs.Laws.Verdicts.{refused_tried, refused_is}
use Rattle.gerg_ph.specs.Saturation.{verdict_at, interval_of, pure_saturation_of}
use Rattle.gerg_ph.proofs.Laws.Sampling.{sample_beyond, sample_outside}

module _ (t : Tables) (m : GergModel) (gradients : List (List Float)) (range : Range) (pressure : Float) where
  verdict_beyond : (x : Float) → beyond_five m ≡ true → verdict_at t m gradients range pressure x ≡ Err refusal.BeyondFive
  unfolding verdict_at
  verdict_beyond x b = ap tried_of (sym (sample_beyond t m gradients range pressure x b)) ∙ refused_tried refusal.BeyondFive

  verdict_outside : (x : Float) → beyond_five m ≡ false → within_envelope x pressure ≡ false → verdict_at t m gradients range pressure x ≡ Err refusal.OutsideEnvelope
  unfolding verdict_at
  verdict_outside x b w = ap tried_of (sym (sample_outside t m gradients range pressure x b w)) ∙ refused_tried refusal.OutsideEnvelope

  -- n is the number of positive fractions
  module _ (lo hi : Float) (limit n : ℕ) (e : n ≡ positive_fractions m) where
    refused : refused_by n lo hi ≡ true → Err refusal.NotPure ≡ pure_saturation_of t m gradients range pressure lo hi limit
    unfolding pure_saturation_of
    refused f = let g : saturation_refused m lo hi ≡ true = refused_is m lo hi ∙ ap (λ (k : ℕ). refused_by k lo hi) (sym e) ∙ f in rw g

    pub searched : refused_by n lo hi ≡ false → search_of (verdict_at t m gradients range pressure) limit (interval_of lo hi) ≡ pure_saturation_of t m gradients range pressure lo hi limit
    unfolding pure_saturation_of
    searched f = let g : saturation_refused m lo hi ≡ false = refused_is m lo hi ∙ ap (λ (k : ℕ). refused_by k lo hi) (sym e) ∙ f in rw g

    -- r is the refusal of the first row that refuses
    pub first_row :
        (r : Refusal) → Err r ≡ pick (refused_by n lo hi) (Err refusal.NotPure) (pick (beyond_five m) (Err refusal.BeyondFive) (pick (within_envelope lo pressure) passed (Err refusal.OutsideEnvelope))) →
        Err r ≡ pure_saturation_of t m gradients range pressure lo hi limit
    first_row r is = go (refused_by n lo hi) (beyond_five m) (within_envelope lo pressure) refl refl refl is
      where
        go :
            (a b c : Bool) → refused_by n lo hi ≡ a → beyond_five m ≡ b → within_envelope lo pressure ≡ c →
            Err r ≡ pick a (Err refusal.NotPure) (pick b (Err refusal.BeyondFive) (pick c passed (Err refusal.OutsideEnvelope))) → Err r ≡ pure_saturation_of t m gradients range pressure lo hi limit
        go true b c p q w f = let same : r ≡ refusal.NotPure = cc in ap Err same ∙ refused p
        go false true c p q w f = let same : r ≡ refusal.BeyondFive = cc in ap Err same ∙ low_refused (verdict_at t m gradients range pressure) limit (interval_of lo hi) refusal.BeyondFive (verdict_beyond lo q) ∙ searched p
        go false false true p q w f = cc
        go false false false p q w f = let same : r ≡ refusal.OutsideEnvelope = cc in ap Err same ∙ low_refused (verdict_at t m gradients range pressure) limit (interval_of lo hi) refusal.OutsideEnvelope (verdict_outside lo q w) ∙ searched p

-- no row refuses
pub no_row : (a b c : Bool) (u : Unit {0}) → Ok u ≡ pick a (Err refusal.NotPure) (pick b (Err refusal.BeyondFive) (pick c passed (Err refusal.OutsideEnvelope))) → (a ≡ false) × (b ≡ false)
no_row true b c u e = cc
no_row false true c u e = cc
no_row false false c u e = (refl, refl)
