-- Coefficients are written where they are accepted, and only there; copied, the front of a list is written place by place. Assumes nothing.
use mathlib.Core.Path.{◌≡◌, refl, ap, ◌∙◌}
use mathlib.Core.Bool.{Bool, true, false}
use mathlib.Core.List.{List, [], ◌∷◌, ◌++◌}
use Prim.Native.Nat.{ℕ, zero, suc, ◌≤◌}
use native.Mathlib.Omega.{arith}
use lib.Ieee.{Float, nan}
use lib.ListN.{length, get_or, take, drop}
use lib.Seq.{take-suc}
use Rattle.numerics.specs.Double.{pick}
use Rattle.numerics.specs.Fill.{tabulate, filled}
use Rattle.gerg_tables.specs.declared.Tables.{Tables}
use Rattle.gerg_reducing.specs.declared.GergModel.{GergModel}
use Rattle.gerg_model.specs.Mixture.{all_finite}
use Rattle.gerg.specs.declared.GergState.{GergState}
use Rattle.gerg_fugacity.specs.Fugacity.{ln_phis, fugacity_of, fugacity_memory}
use Rattle.gerg_refusals.specs.Answer.{number_of, passed}
use Rattle.std.specs.Prelude.{Err}
use Rattle.gerg_refusals.specs.declared.Refusal.TheVariants as refusal

-- the front of a list, place by place
front_is : {A : Type 0} (xs : List A) (n : ℕ) (d : A) → n ≤ length xs → take n xs ≡ tabulate (λ k. get_or xs k d) n
unfolding tabulate
front_is xs zero d h = refl
front_is xs (suc n) d h = take-suc xs n d (omega arith) ∙ ap (λ (front : List _). front ++ (get_or xs n d ∷ [])) (front_is xs n d (omega arith))

pub copied_front : {A : Type 0} (xs l : List A) (n : ℕ) (d : A) {front : List A} → n ≤ length xs → front ≡ take n xs → front ++ drop n l ≡ filled (λ k. get_or xs k d) n l
copied_front xs l n d h e = ap (λ (front : List _). front ++ drop n l) (e ∙ front_is xs n d h)

pub fugacity_writes : (t : Tables) (m : GergModel) (gradients : List (List Float)) (s : GergState) (T rho : Float) (out : List Float) →
    fugacity_of t m gradients s T rho ≡ passed → fugacity_memory t m gradients s T rho out ≡ filled (λ k. get_or (ln_phis t m gradients s T rho) k nan) m.components out
unfolding fugacity_of fugacity_memory
fugacity_writes t m gradients s T rho out = go (all_finite (ln_phis t m gradients s T rho) m.components)
  where
    never : Err refusal.NotFinite ≡ passed → ⊥
    never e = cc

    go : (b : Bool) → pick b passed (Err refusal.NotFinite) ≡ passed → pick b (filled (λ k. get_or (ln_phis t m gradients s T rho) k nan) m.components out) out ≡ filled (λ k. get_or (ln_phis t m gradients s T rho) k nan) m.components out
    go true e = refl
    go false e = absurd (never e)

pub fugacity_leaves : (t : Tables) (m : GergModel) (gradients : List (List Float)) (s : GergState) (T rho : Float) (out : List Float) →
    (number_of (fugacity_of t m gradients s T rho) ≡ 0 → ⊥) → fugacity_memory t m gradients s T rho out ≡ out
unfolding fugacity_of fugacity_memory
fugacity_leaves t m gradients s T rho out = go (all_finite (ln_phis t m gradients s T rho) m.components)
  where
    go : (b : Bool) → (number_of (pick b passed (Err refusal.NotFinite)) ≡ 0 → ⊥) → pick b (filled (λ k. get_or (ln_phis t m gradients s T rho) k nan) m.components out) out ≡ out
    go true h = absurd (h refl)
    go false h = refl
