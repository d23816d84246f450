-- By what numbers a search for roots refuses: 6 to 22 before the answer, 6 to 24 in it. Assumes nothing.
use mathlib.Core.Bool.{Bool, true, false}
use mathlib.Core.List.{List}
use Prim.Native.Nat.{ℕ}
use native.Mathlib.Nat.{le_trans}
use lib.Dec.{lit≤}
use lib.Ieee.{Float}
use Rattle.std.specs.Prelude.{Result, Err, IfErr}
use Rattle.std.proofs.lemmas.Result.{IfErr-weaker}
use Rattle.numerics.specs.Double.{pick}
use Rattle.gerg_refusals.specs.Answer.{number_of}
use Rattle.gerg_refusals.specs.declared.Refusal.{Refusal}
use Rattle.gerg_refusals.specs.declared.Refusal.TheVariants as refusal
use Rattle.gerg_tables.specs.declared.Tables.{Tables}
use Rattle.gerg_reducing.specs.declared.GergModel.{GergModel}
use Rattle.gerg.specs.declared.Range.{Range}
use Rattle.gerg.proofs.Laws.Numbers.{Numbered, Row, Late, late_numbered, late_rows}
use Rattle.gerg_root_list.specs.RootList.{beyond_five, within_envelope, answer_of}
use Rattle.gerg_root_list.proofs.Laws.KeptRefusals.{answer_refusal}
use Rattle.gerg_flash.specs.Roots.{searched_of, roots_of}
use Rattle.gerg_flash.proofs.Laws.SearchedRows.{searched_rows}

module _ (t : Tables) (m : GergModel) (gradients : List (List Float)) (range : Range) (temperature target : Float) where
  -- ---- the search refuses by a number from 6 to 22
  pub searched_numbers : Late 22 (number_of (searched_of t m gradients range temperature target))
  searched_numbers = late_rows 22 (searched_of t m gradients range temperature target) (searched_rows t m gradients range temperature target)

  -- ---- and the answer by a number from 6 to 24
  module _ (lent : ℕ) where
    answer_row : IfErr (answer_of m lent (searched_of t m gradients range temperature target)) (Numbered 24)
    answer_row =
        answer_refusal (Numbered 24) (lit≤ tt, lit≤ tt) m lent (searched_of t m gradients range temperature target) (lit≤ tt, lit≤ tt)
        (IfErr-weaker _ (Row 22) (Numbered 24) (λ r row. (row.0, le_trans row.1 (lit≤ tt))) (searched_rows t m gradients range temperature target))

    roots_row : IfErr (roots_of t m gradients range temperature target lent) (Numbered 24)
    unfolding roots_of
    roots_row = go (beyond_five m) (within_envelope temperature target) (answer_of m lent (searched_of t m gradients range temperature target)) answer_row
      where
        go : (a b : Bool) (x : Result ℕ Refusal) → IfErr x (Numbered 24) → IfErr (pick a (Err refusal.BeyondFive) (pick b x (Err refusal.OutsideEnvelope))) (Numbered 24)
        go true b x row = (lit≤ tt, lit≤ tt)
        go false true x row = row
        go false false x row = (lit≤ tt, lit≤ tt)

    pub roots_numbers : Late 24 (number_of (roots_of t m gradients range temperature target lent))
    roots_numbers = late_numbered 24 (roots_of t m gradients range temperature target lent) roots_row
