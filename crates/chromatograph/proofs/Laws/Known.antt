-- What a list that row 3 passed has, and that a list which it refuses is refused so beside any fractions. Assumes nothing.
use mathlib.Core.Path.{◌≡◌, refl, ap, ◌∙◌, subst}
use mathlib.Core.Bool.{Bool, true, false}
use mathlib.Core.List.{List, []}
use Prim.Native.Nat.{ℕ, ◌≤◌}
use borrow.Author.Tests.{ltb-false, eqb-true}
use lib.Dec.{eqb, ltb}
use lib.Ieee.{Float}
use lib.ListN.{length}
use Rattle.numerics.specs.Tests.{or_false}
use Rattle.gerg_model.specs.MixtureCheck.{first_place, bad_number, check_of}
use Rattle.gerg_refusals.specs.declared.Refusal.TheVariants as refusal
use Rattle.gerg_model.specs.Accepted.{KnownList}
use Rattle.gerg_model.proofs.Laws.First.{first_passed}
use Rattle.gerg_refusals.specs.Answer.{value_of}
use Rattle.gerg_refusals.specs.declared.Refusal.{Refusal}
use Rattle.std.proofs.Common.{Result, Err}
use Rattle.gerg_model.proofs.Laws.Accepted.{known_list}
use Rattle.gerg_model.proofs.Laws.Numbers.{mixture_value_at_most_21}
use Rattle.chromatograph.specs.Lists.{bad_place, bad_list}

pub known : (list : List ℕ) → bad_list list ≡ false → KnownList list
unfolding bad_list bad_place
known list e =
    let t = or_false (eqb (length list) 0) (ltb (bad_place list) (length list)) e in
    known_list list (λ k h. first_passed (bad_number list) (length list) k (ltb-false (bad_place list) (length list) t.1) h)

pub row_3_kept : (list : List ℕ) (fractions : List Float) → bad_list list ≡ true → check_of list fractions ≡ Err (refusal.Components (bad_place list))
unfolding check_of bad_list bad_place
row_3_kept list fractions t = go (eqb (length list) 0) refl
  where
    go : (b : Bool) → eqb (length list) 0 ≡ b → check_of list fractions ≡ Err (refusal.Components (bad_place list))
    go true e =
        let z = eqb-true (length list) 0 e in
        let f : first_place (bad_number list) (length list) 0 ≡ 0 = ap (λ (k : ℕ). first_place (bad_number list) k 0) z ∙ unfold first_place in refl in
        rw (e, f)
    go false e =
        let h : ltb (first_place (bad_number list) (length list) 0) (length list) ≡ true = rw e at t in
        rw (e, h)

-- the value of row 3
pub place_at_most : (list : List ℕ) → bad_list list ≡ true → bad_place list ≤ 21
place_at_most list t = let v = mixture_value_at_most_21 list [] in subst (λ (c : Result (Unit {0}) Refusal). value_of c ≤ 21) (row_3_kept list [] t) v
