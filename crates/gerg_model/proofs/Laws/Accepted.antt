-- What a list and fractions that passed have, and the model made of them. Assumes nothing.
use mathlib.Core.Path.{◌≡◌, refl}
use mathlib.Core.Bool.{Bool, true, false, not}
use mathlib.Core.List.{List}
use Prim.Native.Nat.{ℕ, zero, suc, ◌-◌, ◌≤◌, ◌<◌}
use native.Mathlib.Omega.{arith}
use borrow.Author.Tests.{ltb-true, ltb-false, leb-true, leb-false, eqb-false, eqb-true}
use lib.Dec.{leb, ltb, eqb}
use lib.Ieee.{Float}
use lib.ListN.{length, get_or, set, replicate}
use Rattle.std.proofs.Common.{Result, Ok, Err, All}
use Rattle.std.proofs.lemmas.List.{get_or_past}
use Rattle.std.proofs.lemmas.List.Elements.{All-replicate, All-set}
use Rattle.numerics.specs.Double.{pick}
use Rattle.numerics.specs.Iterate.{iter}
use Rattle.numerics.specs.Tests.{or_false}
use Rattle.gerg_refusals.specs.declared.Refusal.{Refusal}
use Rattle.gerg_refusals.specs.declared.Refusal.TheVariants.{Components, Fractions}
use Rattle.gerg_model.specs.MixtureCheck.{first_place, bad_number, bad_fraction, adds_up, check_of}
use Rattle.gerg_model.specs.Accepted.{KnownList, Accepted}
use Rattle.gerg_model.specs.Mixture.{indices_of, model_of}
use Rattle.gerg_reducing.specs.Listed.{Listed}
use Rattle.gerg_model.proofs.Laws.First.{first_passed}

-- the tests that were passed on the way to Ok
sound_tests :
    (a b c : Bool) (place n : ℕ) (rest : Result (Unit {0}) Refusal) →
    pick a (Err (Components 0)) (pick b (Err (Components place)) (pick (not c) (Err (Fractions n)) rest)) ≡ Ok tt → (b ≡ false) × (c ≡ true)
sound_tests true b c place n rest e = cc
sound_tests false true c place n rest e = cc
sound_tests false false true place n rest e = (refl, refl)
sound_tests false false false place n rest e = cc

module _ (list : List ℕ) (good : (k : ℕ) → k < length list → bad_number list k ≡ false) where
  at : (k : ℕ) → k < length list → (k < 21) × (0 < get_or list k 0) × (get_or list k 0 ≤ 21)
  unfolding bad_number
  at k h =
      let a = or_false _ _ (good k h) in
      let b = or_false _ _ a.0 in
      let d = or_false _ _ b.0 in
      let ne = eqb-false (get_or list k 0) 0 d.1 in
      (leb-false 21 k d.0, omega arith, ltb-false 21 (get_or list k 0) b.1)

  few_of : (t : Bool) → leb (length list) 21 ≡ t → length list ≤ 21
  few_of true e = leb-true (length list) 21 e
  few_of false e = let l = leb-false (length list) 21 e in let c = (at 21 l).0 in omega arith

  pub known_list : KnownList list
  known_list = record { few = few_of (leb (length list) 21) refl; known = λ k h. ((at k h).1, (at k h).2) }

-- what `check_mixture` answers Ok of
pub accepted : (list : List ℕ) (fractions : List Float) → check_of list fractions ≡ Ok tt → Accepted list fractions
unfolding check_of
accepted list fractions e =
    let number = first_place (bad_number list) (length list) 0 in
    let fraction = first_place (bad_fraction fractions) (length fractions) 0 in
    let tests = sound_tests (eqb (length list) 0) (ltb number (length list)) (eqb (length fractions) (length list)) number (length list)
    (pick (ltb fraction (length fractions)) (Err (Fractions fraction)) (pick (adds_up fractions) (Ok tt) (Err (Fractions (length list))))) e in
    record {
      listed = known_list list (λ k h. first_passed (bad_number list) (length list) k (ltb-false number (length list) tests.0) h);
      paired = eqb-true (length fractions) (length list) tests.1;
    }

module _ (list : List ℕ) (good : KnownList list) where
  below_iter : (n : ℕ) → n ≤ length list → All (λ (x : ℕ). x < 21) (iter (λ k a. set a k (get_or list k 0 - 1)) n (replicate 21 0))
  unfolding iter
  below_iter zero h = All-replicate (λ (x : ℕ). x < 21) 21 0 (omega arith)
  below_iter (suc n) h =
      let b = good.known n (omega arith) in
      All-set (λ (x : ℕ). x < 21) (iter (λ k a. set a k (get_or list k 0 - 1)) n (replicate 21 0)) n (get_or list n 0 - 1) (omega arith) (below_iter n (omega arith))

-- past its end too
below_any : (l : List ℕ) (i : ℕ) → All (λ (x : ℕ). x < 21) l → get_or l i 0 < 21
below_any l i h = go (ltb i (length l)) refl
  where
    go : (b : Bool) → ltb i (length l) ≡ b → get_or l i 0 < 21
    go true e = h i 0 (ltb-true i (length l) e)
    go false e = omega (arith, get_or_past l i 0 (ltb-false i (length l) e))

-- what the model of such a list has
pub listed : (doubles : List Float) (list : List ℕ) (fractions : List Float) → Accepted list fractions → Listed (model_of doubles list fractions)
unfolding model_of indices_of
listed doubles list fractions good = record { few = good.listed.few; known = λ k h. below_any _ k (below_iter list good.listed (length list) (omega arith)) }

-- as many components as the list is long
pub as_listed : (doubles : List Float) (list : List ℕ) (fractions : List Float) → (model_of doubles list fractions).components ≡ length list
unfolding model_of
as_listed doubles list fractions = refl
