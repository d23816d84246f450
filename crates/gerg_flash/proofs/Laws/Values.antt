-- The value and the number 0 of an answer of `outer_roots`. Assumes nothing.
use mathlib.Core.Path.{◌≡◌, subst}
use mathlib.Core.Bool.{Bool, true, false}
use mathlib.Core.List.{List}
use Prim.Native.Nat.{ℕ}
use lib.Ieee.{Float}
use Rattle.std.specs.Prelude.{Result, Err}
use Rattle.numerics.specs.Double.{pick}
use Rattle.gerg_refusals.specs.Answer.{value_of}
use Rattle.gerg_refusals.specs.declared.Refusal.{Refusal}
use Rattle.gerg_refusals.specs.declared.Refusal.TheVariants as refusal
use Rattle.gerg_tables.specs.declared.Tables.{Tables}
use Rattle.gerg_reducing.specs.declared.GergModel.{GergModel}
use Rattle.gerg.specs.declared.Range.{Range}
use Rattle.gerg.proofs.Laws.Numbers.{value_0}
use Rattle.gerg_root_list.specs.RootList.{roots_in, needed, answer_of, beyond_five, within_envelope}
use Rattle.gerg_root_list.proofs.Laws.Told.{Told, told_refused, told_answer}
use Rattle.gerg_flash.specs.Roots.{searched_of, roots_of}
use Rattle.gerg_flash.proofs.Laws.SearchedRows.{searched_rows}

module _ (t : Tables) (m : GergModel) (gradients : List (List Float)) (range : Range) (temperature target : Float) (lent : ℕ) where
  -- a refusal of the search has no value
  no_value : value_of (searched_of t m gradients range temperature target) ≡ 0
  no_value = value_0 22 (searched_of t m gradients range temperature target) (searched_rows t m gradients range temperature target)

  pub roots_told : Told (needed m (roots_in (searched_of t m gradients range temperature target))) 0 (roots_of t m gradients range temperature target lent)
  unfolding roots_of
  roots_told =
      go (beyond_five m) (within_envelope temperature target) (answer_of m lent (searched_of t m gradients range temperature target))
      (subst (λ (n : ℕ). Told bound n (answer_of m lent (searched_of t m gradients range temperature target))) no_value (told_answer m lent (searched_of t m gradients range temperature target)))
    where
      bound : ℕ
      bound = needed m (roots_in (searched_of t m gradients range temperature target))

      go : (a b : Bool) (x : Result ℕ Refusal) → Told bound 0 x → Told bound 0 (pick a (Err refusal.BeyondFive) (pick b x (Err refusal.OutsideEnvelope)))
      go true b x h = told_refused bound refusal.BeyondFive
      go false true x h = h
      go false false x h = told_refused bound refusal.OutsideEnvelope
