-- What demand 3 promises of saturation searches, and what an answer reports. Assumes nothing.
use mathlib.Core.Path.{◌≡◌, refl, sym, ◌∙◌}
use mathlib.Core.Logic.{◌⊎◌}
use mathlib.Core.Bool.{Bool, true, false}
use mathlib.Core.List.{List, []}
use Prim.Native.Nat.{ℕ, ◌^◌, ◌≤◌, ◌<◌, zero-le}
use native.Mathlib.Nat.{le_trans, lt_of_le_of_lt}
use lib.Dec.{T, lit≤, lit<}
use lib.Ieee.{Float, binary64, fits}
use lib.ListN.{length}
use Rattle.std.specs.Prelude.{Some, None, Ok}
use Rattle.numerics.specs.Double.{pick}
use Rattle.gerg_tables.specs.declared.Tables.{Tables}
use Rattle.gerg_reducing.specs.declared.GergModel.{GergModel}
use Rattle.gerg.specs.declared.Range.{Range}
use Rattle.gerg_saturation.specs.Checks.{positive_fractions, saturation_refused}
use Rattle.gerg_saturation.specs.Halvings.{trials_of}
use Rattle.gerg_ph.specs.Saturation.{verdict_at, interval_of, pure_saturation_of, saturation_trials}
use Rattle.gerg_refusals.specs.Answer.{number_of, value_of}
use Rattle.gerg_saturation.specs.Answer.{Tried}
use Rattle.gerg_saturation.specs.declared.PureSaturation.{PureSaturation}
use Rattle.gerg_saturation.proofs.Laws.Bounded.{few_of}
use Rattle.gerg_saturation.proofs.Laws.Verdicts.{refused_is}
use Rattle.gerg_ph.proofs.Laws.Ends.{ends_within}
use Rattle.gerg_ph.proofs.Laws.Reported.{reports}

module _ (t : Tables) (m : GergModel) (gradients : List (List Float)) (range : Range) (pressure lo hi : Float) (limit : ℕ) where
  -- "A saturation search makes at most 60 trials between its ends, whatever it is given and however it ends"
  pub at_most_60_trials : T (fits binary64 lo) → T (fits binary64 hi) → length (saturation_trials t m gradients range pressure lo hi limit) ≤ 60
  unfolding saturation_trials
  at_most_60_trials f g = go (saturation_refused m lo hi) refl
    where
      v : Float → Tried
      v = verdict_at t m gradients range pressure

      go : (a : Bool) → saturation_refused m lo hi ≡ a → length (pick a [] (trials_of v limit (interval_of lo hi))) ≤ 60
      go true p = zero-le
      go false p = le_trans (few_of v limit (interval_of lo hi) (ends_within t m gradients range pressure lo hi (positive_fractions m) f g (sym (refused_is m lo hi) ∙ p))) (lit≤ tt)

  -- "the value of row 26 is the list's length"
  pub row_26_value : number_of (pure_saturation_of t m gradients range pressure lo hi limit) ≡ 26 → value_of (pure_saturation_of t m gradients range pressure lo hi limit) ≡ length (saturation_trials t m gradients range pressure lo hi limit)
  row_26_value = (reports t m gradients range pressure lo hi limit).row_26

  -- "The value is 0 unless given"
  pub no_value : (number_of (pure_saturation_of t m gradients range pressure lo hi limit) ≡ 26 → ⊥) → value_of (pure_saturation_of t m gradients range pressure lo hi limit) ≡ 0
  no_value = (reports t m gradients range pressure lo hi limit).others

  -- the table of causes ends with row 26
  pub number_at_most : number_of (pure_saturation_of t m gradients range pressure lo hi limit) ≤ 26
  number_at_most = (reports t m gradients range pressure lo hi limit).number

  -- and rows 1 to 5 are none of its
  pub number_late : (number_of (pure_saturation_of t m gradients range pressure lo hi limit) ≡ 0 → ⊥) → 5 < number_of (pure_saturation_of t m gradients range pressure lo hi limit)
  number_late = (reports t m gradients range pressure lo hi limit).late

  -- so `% 2^32` loses nothing of it
  pub value_below : T (fits binary64 lo) → T (fits binary64 hi) → value_of (pure_saturation_of t m gradients range pressure lo hi limit) < 2 ^ 32
  value_below f g = lt_of_le_of_lt (le_trans (reports t m gradients range pressure lo hi limit).most (at_most_60_trials f g)) (lit< tt)

  -- number 0 is no refusal's: found, or "not enclosed"
  pub accepted :
      number_of (pure_saturation_of t m gradients range pressure lo hi limit) ≡ 0 →
      ((s : PureSaturation) × (pure_saturation_of t m gradients range pressure lo hi limit ≡ Ok (Some s))) ⊎ (pure_saturation_of t m gradients range pressure lo hi limit ≡ Ok None)
  accepted = (reports t m gradients range pressure lo hi limit).accepted
