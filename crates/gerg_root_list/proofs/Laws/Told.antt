-- The value of an answer: the doubles needed with number 24, with any other number that of the kept roots, 0 where they are not refused; and number 0 is an accepted call. Assumes nothing.
use mathlib.Core.Path.{◌≡◌, refl}
use mathlib.Core.Bool.{Bool, true, false}
use Prim.Native.Nat.{ℕ, ◌+◌, ◌≤◌, zero-le}
use native.Mathlib.Omega.{arith}
use lib.Dec.{eqb, ltb}
use lib.ListN.{length}
use Rattle.std.specs.Prelude.{Result, Ok, Err}
use Rattle.numerics.specs.Double.{pick}
use Rattle.gerg_refusals.proofs.Told.{never_0}
use Rattle.gerg_refusals.specs.Answer.{number_of, value_of}
use Rattle.gerg_refusals.specs.Refusal as of_refusal
use Rattle.gerg_refusals.specs.declared.Refusal.{Refusal}
use Rattle.gerg_refusals.specs.declared.Refusal.TheVariants as refusal
use Rattle.gerg_reducing.specs.declared.GergModel.{GergModel}
use Rattle.gerg_root_list.specs.RootList.{Kept, needed, roots_in, answer_of}

-- what an answer tells that needs at most `bound` doubles, of kept roots whose refusal has the value `kept`: where that is 0, a value of at most `bound`, and with any number but 24 the value 0
pub record Told (bound kept : ℕ) (a : Result ℕ Refusal) : Type 0 where
  pub other : (number_of a ≡ 24 → ⊥) → value_of a ≡ kept
  pub most : value_of a ≤ bound + kept
  pub accepted : number_of a ≡ 0 → (n : ℕ) × (a ≡ Ok n)

pub told_refused : (bound : ℕ) (r : Refusal) → Told bound (of_refusal.value_of r) (Err r)
told_refused bound r = record { other = λ e. refl; most = omega arith; accepted = λ e. absurd (never_0 r e) }

-- of all kept roots, whatever refuses them
pub told_answer : (m : GergModel) (lent : ℕ) (k : Kept) → Told (needed m (roots_in k)) (value_of k) (answer_of m lent k)
unfolding answer_of
told_answer m lent (Err r) = told_refused (needed m (roots_in (Err r))) r
told_answer m lent (Ok k) = go (eqb (length k) 0) (ltb lent (needed m k))
  where
    go : (a b : Bool) → Told (needed m k) 0 (pick a (Err refusal.NoRoot) (pick b (Err (refusal.TooShort (needed m k))) (Ok (length k))))
    go true b = told_refused (needed m k) refusal.NoRoot
    go false true = record { other = λ e. absurd (e refl); most = omega arith; accepted = λ e. absurd (never_0 (refusal.TooShort (needed m k)) e) }
    go false false = record { other = λ e. refl; most = zero-le; accepted = λ e. (length k, refl) }
