-- What rows 1 to 5 carry to `outer_roots` and `pure_saturation`: what holds of their refusal, and of what follows them, holds of the call. Assumes nothing.
use mathlib.Core.Path.{◌≡◌}
use mathlib.Core.List.{List, []}
use Prim.Native.Nat.{ℕ}
use lib.Ieee.{Float}
use lib.ListN.{length}
use Rattle.std.specs.Prelude.{Result, Ok, Err, Option}
use Rattle.gerg_refusals.specs.declared.Refusal.{Refusal}
use Rattle.gerg_refusals.proofs.Then.{through}
use Rattle.gerg_tables.specs.declared.Tables.{Tables}
use Rattle.gerg_coefficients.specs.Answer.{tables_of}
use Rattle.gerg.specs.Helmholtz.{normal_range}
use Rattle.gerg_flash.specs.Roots.{roots_of, roots_memory}
use Rattle.gerg_ph.specs.Saturation.{pure_saturation_of, saturation_trials}
use Rattle.gerg_saturation.specs.declared.PureSaturation.{PureSaturation}
use Rattle.gerg_prepared.specs.Mixed.{mixed_of}
use Rattle.gerg_prepared.specs.declared.Mixed.{Mixed}
use Rattle.gerg_equilibrium.specs.Equilibrium as equilibrium

module _ (bytes list : List ℕ) (fractions : List Float) where
  abbrev t : Tables
  t = tables_of bytes

  abbrev mixed : Result Mixed Refusal
  mixed = mixed_of bytes list fractions

  pub roots_through : (P : Result ℕ Refusal → List Float → Type 0) (temperature target : Float) (out : List Float) →
      ((r : Refusal) → mixed ≡ Err r → P (Err r) out) →
      ((m : Mixed) → mixed ≡ Ok m → P (roots_of t m.model m.gradients normal_range temperature target (length out)) (roots_memory t m.model m.gradients normal_range temperature target out)) →
      P (equilibrium.roots_call bytes list fractions temperature target out) (equilibrium.roots_written bytes list fractions temperature target out)
  unfolding equilibrium.roots_call equilibrium.roots_written
  roots_through P temperature target out f g =
      through P mixed (λ m. roots_of t m.model m.gradients normal_range temperature target (length out)) out
      (λ m. roots_memory t m.model m.gradients normal_range temperature target out) f g

  pub saturation_through : (P : Result (Option PureSaturation) Refusal → List Float → Type 0) (target lo hi : Float) (limit : ℕ) →
      ((r : Refusal) → mixed ≡ Err r → P (Err r) []) →
      ((m : Mixed) → mixed ≡ Ok m → P (pure_saturation_of t m.model m.gradients normal_range target lo hi limit) (saturation_trials t m.model m.gradients normal_range target lo hi limit)) →
      P (equilibrium.saturation_call bytes list fractions target lo hi limit) (equilibrium.saturation_call_trials bytes list fractions target lo hi limit)
  unfolding equilibrium.saturation_call equilibrium.saturation_call_trials
  saturation_through P target lo hi limit f g =
      through P mixed (λ m. pure_saturation_of t m.model m.gradients normal_range target lo hi limit) []
      (λ m. saturation_trials t m.model m.gradients normal_range target lo hi limit) f g
