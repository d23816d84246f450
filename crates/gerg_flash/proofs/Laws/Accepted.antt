-- What an accepted call tells, and how many roots it has at most. Assumes nothing.
use mathlib.Core.Path.{◌≡◌, subst}
use mathlib.Core.Bool.{Bool, true, false}
use mathlib.Core.List.{List}
use Prim.Native.Nat.{ℕ, ◌≤◌}
use lib.Ieee.{Float}
use Rattle.std.specs.Prelude.{Ok, Err}
use Rattle.numerics.specs.Double.{pick}
use Rattle.gerg_refusals.specs.declared.Refusal.TheVariants as refusal
use Rattle.gerg_tables.specs.declared.Tables.{Tables}
use Rattle.gerg_reducing.specs.declared.GergModel.{GergModel}
use Rattle.gerg.specs.declared.Range.{Range}
use Rattle.gerg_root_list.specs.RootList.{answer_of, beyond_five, within_envelope}
use Rattle.gerg_root_list.proofs.Laws.Written.{Accepted, answer_accepted}
use Rattle.gerg_flash.specs.Roots.{searched_of, roots_of}
use Rattle.gerg_flash.proofs.Laws.Few.{searched_few}

pub roots_accepted : (t : Tables) (m : GergModel) (gradients : List (List Float)) (range : Range) (temperature target : Float) (lent n : ℕ) → roots_of t m gradients range temperature target lent ≡ Ok n → Accepted m lent n (searched_of t m gradients range temperature target)
unfolding roots_of
roots_accepted t m gradients range temperature target lent n = go (beyond_five m) (within_envelope temperature target)
  where
    go : (a b : Bool) → pick a (Err refusal.BeyondFive) (pick b (answer_of m lent (searched_of t m gradients range temperature target)) (Err refusal.OutsideEnvelope)) ≡ Ok n → Accepted m lent n (searched_of t m gradients range temperature target)
    go true b e = cc
    go false false e = cc
    go false true e = answer_accepted m lent n (searched_of t m gradients range temperature target) e

-- accepted roots are at most as many as the grid has points
pub roots_few :
    (t : Tables) (m : GergModel) (gradients : List (List Float)) (range : Range) (temperature pressure : Float) (lent n : ℕ) →
    roots_of t m gradients range temperature pressure lent ≡ Ok n → n ≤ 386
roots_few t m gradients range temperature pressure lent n e =
    subst (λ (k : ℕ). k ≤ 386) (roots_accepted t m gradients range temperature pressure lent n e).count (searched_few t m gradients range temperature pressure)
