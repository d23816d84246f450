-- What rows 1 to 5 carry to `properties`, `fugacity` and `density`: what holds of their refusal, and of what follows them, holds of the call. Assumes nothing.
use mathlib.Core.Path.{◌≡◌}
use mathlib.Core.Bool.{Bool, true, false}
use mathlib.Core.List.{List, []}
use Prim.Native.Nat.{ℕ}
use lib.Ieee.{Float}
use Rattle.std.specs.Prelude.{Result, Ok, Err}
use Rattle.numerics.specs.Double.{pick}
use Rattle.gerg_refusals.specs.declared.Refusal.{Refusal}
use Rattle.gerg_refusals.specs.declared.Refusal.TheVariants as refusal
use Rattle.gerg_refusals.proofs.Then.{through, then_holds}
use Rattle.gerg_tables.specs.declared.Tables.{Tables}
use Rattle.gerg_coefficients.specs.Answer.{tables_of}
use Rattle.gerg.specs.declared.Range.{Range}
use Rattle.gerg.specs.Evaluate.{evaluate_of}
use Rattle.gerg.specs.declared.GergState.{GergState}
use Rattle.gerg_density.specs.Density.{density_of, density_trials}
use Rattle.gerg_density.specs.declared.DensityResult.{DensityResult}
use Rattle.gerg_search.specs.declared.Options.{Options}
use Rattle.gerg_prepared.specs.Mixed.{mixed_of}
use Rattle.gerg_prepared.specs.declared.Mixed.{Mixed}
use Rattle.gerg_calls.specs.Calls as calls

picked : {A B : Type 0} (P : A → B → Type 0) (b : Bool) (x y : A) (u v : B) → P x u → P y v → P (pick b x y) (pick b u v)
picked P true x y u v f g = f
picked P false x y u v f g = g

module _ (bytes list : List ℕ) (fractions : List Float) where
  abbrev t : Tables
  t = tables_of bytes

  abbrev mixed : Result Mixed Refusal
  mixed = mixed_of bytes list fractions

  pub properties_through : (P : Result GergState Refusal → Type 0) (range : Range) (temperature rho : Float) →
      ((r : Refusal) → mixed ≡ Err r → P (Err r)) → ((m : Mixed) → mixed ≡ Ok m → P (evaluate_of t m.model range temperature rho)) →
      P (calls.properties_in bytes list fractions range temperature rho)
  unfolding calls.properties_in
  properties_through P range temperature rho = then_holds P mixed (λ m. evaluate_of t m.model range temperature rho)

  -- row 24 stands between
  pub fugacity_through : (P : Result GergState Refusal → List Float → Type 0) (range : Range) (temperature rho : Float) (out : List Float) →
      ((r : Refusal) → mixed ≡ Err r → P (Err r) out) → ((m : Mixed) → mixed ≡ Ok m → P (Err (refusal.TooShort m.model.components)) out) →
      ((m : Mixed) → mixed ≡ Ok m → P (calls.fugacity_after t m.model m.gradients temperature rho (evaluate_of t m.model range temperature rho)) (calls.memory_after t m.model m.gradients temperature rho out (evaluate_of t m.model range temperature rho))) →
      P (calls.fugacity_in bytes list fractions range temperature rho out) (calls.fugacity_written_in bytes list fractions range temperature rho out)
  unfolding calls.fugacity_in calls.fugacity_written_in calls.fugacity_from calls.memory_from
  fugacity_through P range temperature rho out f g h =
      through P mixed (λ m. calls.fugacity_from t m.model m.gradients range temperature rho out) out (λ m. calls.memory_from t m.model m.gradients range temperature rho out) f
      (λ m e.
      let a = evaluate_of t m.model range temperature rho in
      picked P (calls.too_short m.model out) (Err (refusal.TooShort m.model.components)) (calls.fugacity_after t m.model m.gradients temperature rho a) out (calls.memory_after t m.model m.gradients temperature rho out a) (g m e) (h m e))

  pub density_through : (P : Result DensityResult Refusal → List Float → Type 0) (range : Range) (temperature target : Float) (o : Options) →
      ((r : Refusal) → mixed ≡ Err r → P (Err r) []) →
      ((m : Mixed) → mixed ≡ Ok m → P (density_of t m.model range temperature target o) (density_trials t m.model range temperature target o)) →
      P (calls.density_in bytes list fractions range temperature target o) (calls.density_trials_in bytes list fractions range temperature target o)
  unfolding calls.density_in calls.density_trials_in
  density_through P range temperature target o f g = through P mixed (λ m. density_of t m.model range temperature target o) [] (λ m. density_trials t m.model range temperature target o) f g
