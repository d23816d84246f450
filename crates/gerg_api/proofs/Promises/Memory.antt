-- Demands 1 and 2, said of the memory that a call is lent: `fugacity` and `outer_roots` write themselves, the C exports what their answers leave. Assumes nothing.
use mathlib.Core.Path.{◌≡◌, refl, ap, ◌∙◌}
use mathlib.Core.List.{List}
use Prim.Native.Nat.{ℕ, ◌+◌, ◌*◌, ◌≤◌}
use lib.Ieee.{Float, nan}
use lib.ListN.{length, get_or}
use Rattle.numerics.specs.Fill.{filled}
use Rattle.gerg_tables.specs.declared.Tables.{Tables}
use Rattle.gerg_coefficients.specs.Answer.{tables_of}
use Rattle.gerg.specs.Helmholtz.{normal_range}
use Rattle.gerg.specs.declared.Range.{Range}
use Rattle.gerg.specs.declared.GergState.{GergState}
use Rattle.gerg_fugacity.specs.Fugacity.{ln_phis}
use Rattle.gerg_density.specs.declared.DensityResult.{DensityResult}
use Rattle.gerg_search.specs.declared.Options.{Options}
use Rattle.gerg_flash.proofs.Promises as scan
use Rattle.gerg_saturation.specs.declared.PureSaturation.{PureSaturation}
use Rattle.gerg_refusals.specs.Answer.{number_of}
use Rattle.gerg.specs.Evaluate.{evaluate_of}
use Rattle.gerg_prepared.specs.Mixed.{mixed_of}
use Rattle.gerg_prepared.proofs.Laws.{ready}
use Rattle.gerg_prepared.specs.declared.Mixed.{Mixed}
use Rattle.gerg_answers.specs.Answers.{numbers_of, density_numbers, saturation_numbers, properties_written, density_written, saturation_written}
use Rattle.gerg_answers.proofs.Laws as export
use Rattle.gerg_calls.specs.Calls.{properties_in, fugacity_in, fugacity_written_in, density_in}
use Rattle.gerg_equilibrium.specs.Equilibrium.{roots_call, roots_written, saturation_call}
use Rattle.gerg_calls.proofs.Laws.After as laws
use Rattle.gerg_calls.proofs.Laws.Carried.{fugacity_through}
use Rattle.gerg_equilibrium.proofs.Laws.Carried.{roots_through}
use Rattle.std.specs.Prelude.{Result, Ok, Some, None}
use Rattle.gerg_refusals.specs.declared.Refusal.{Refusal}

-- ---- "Every row leaves all lent memory as it was"
module _ (bytes list : List ℕ) (fractions : List Float) where
  abbrev t : Tables
  t = tables_of bytes

  abbrev mixed : Result Mixed Refusal
  mixed = mixed_of bytes list fractions

  pub fugacity_leaves : (range : Range) (temperature rho : Float) (out : List Float) →
      (number_of (fugacity_in bytes list fractions range temperature rho out) ≡ 0 → ⊥) → fugacity_written_in bytes list fractions range temperature rho out ≡ out
  fugacity_leaves range temperature rho out =
      fugacity_through bytes list fractions (λ a l. (number_of a ≡ 0 → ⊥) → l ≡ out) range temperature rho out (λ r e h. refl) (λ m e h. refl)
      (λ m e. laws.fugacity_memory_lem t m.model m.gradients range temperature rho out (evaluate_of t m.model range temperature rho))

  pub roots_leaves : (temperature pressure : Float) (out : List Float) →
      (number_of (roots_call bytes list fractions temperature pressure out) ≡ 0 → ⊥) → roots_written bytes list fractions temperature pressure out ≡ out
  roots_leaves temperature pressure out =
      roots_through bytes list fractions (λ a l. (number_of a ≡ 0 → ⊥) → l ≡ out) temperature pressure out (λ r e h. refl)
      (λ m e. scan.refusal_leaves_memory t m.model m.gradients normal_range temperature pressure out)

  pub properties_leaves : (range : Range) (temperature rho : Float) (out : List Float) →
      (number_of (properties_in bytes list fractions range temperature rho) ≡ 0 → ⊥) → properties_written (properties_in bytes list fractions range temperature rho) out ≡ out
  properties_leaves range temperature rho out = export.properties_leaves (properties_in bytes list fractions range temperature rho) out

  pub density_leaves : (range : Range) (temperature target : Float) (o : Options) (out : List Float) →
      (number_of (density_in bytes list fractions range temperature target o) ≡ 0 → ⊥) → density_written (density_in bytes list fractions range temperature target o) out ≡ out
  density_leaves range temperature target o out = export.density_leaves (density_in bytes list fractions range temperature target o) out

  pub saturation_leaves : (pressure lo hi : Float) (limit : ℕ) (out : List Float) →
      (number_of (saturation_call bytes list fractions pressure lo hi limit) ≡ 0 → ⊥) → saturation_written (saturation_call bytes list fractions pressure lo hi limit) out ≡ out
  saturation_leaves pressure lo hi limit out = export.saturation_leaves (saturation_call bytes list fractions pressure lo hi limit) out

  -- "not enclosed" is no refusal, and leaves it too
  pub not_enclosed_leaves : (pressure lo hi : Float) (limit : ℕ) (out : List Float) →
      saturation_call bytes list fractions pressure lo hi limit ≡ Ok None → saturation_written (saturation_call bytes list fractions pressure lo hi limit) out ≡ out
  not_enclosed_leaves pressure lo hi limit out = export.not_enclosed_leaves (saturation_call bytes list fractions pressure lo hi limit) out

  -- ---- an accepted call of a C export writes its numbers
  pub properties_writes : (range : Range) (temperature rho : Float) (out : List Float) (s : GergState) →
      properties_in bytes list fractions range temperature rho ≡ Ok s → properties_written (properties_in bytes list fractions range temperature rho) out ≡ numbers_of s
  properties_writes range temperature rho out s = export.properties_writes (properties_in bytes list fractions range temperature rho) s out

  pub density_writes : (range : Range) (temperature target : Float) (o : Options) (out : List Float) (r : DensityResult) →
      density_in bytes list fractions range temperature target o ≡ Ok r → density_written (density_in bytes list fractions range temperature target o) out ≡ density_numbers r
  density_writes range temperature target o out r = export.density_writes (density_in bytes list fractions range temperature target o) r out

  pub saturation_writes : (pressure lo hi : Float) (limit : ℕ) (out : List Float) (s : PureSaturation) →
      saturation_call bytes list fractions pressure lo hi limit ≡ Ok (Some s) → saturation_written (saturation_call bytes list fractions pressure lo hi limit) out ≡ saturation_numbers s
  saturation_writes pressure lo hi limit out s = export.saturation_writes (saturation_call bytes list fractions pressure lo hi limit) s out

  -- an accepted `fugacity` writes ln φ of each listed component, "One per listed component in list order"; "doubles of a lent answer past those needed stay as lent"
  pub fugacity_writes :
      (range : Range) (temperature rho : Float) (out : List Float) (s : GergState) → fugacity_in bytes list fractions range temperature rho out ≡ Ok s →
      (m : Mixed) × (mixed ≡ Ok m) × (fugacity_written_in bytes list fractions range temperature rho out ≡ filled (λ k. get_or (ln_phis t m.model m.gradients s temperature rho) k nan) (length list) out)
  fugacity_writes range temperature rho out s =
      fugacity_through bytes list fractions (λ a l. a ≡ Ok s → (m : Mixed) × (mixed ≡ Ok m) × (l ≡ filled (λ k. get_or (ln_phis t m.model m.gradients s temperature rho) k nan) (length list) out)) range temperature rho out
      (λ r b h. cc) (λ m e h. cc)
      (λ m e h. (
        m,
        e,
        laws.fugacity_written t m.model m.gradients range temperature rho out (evaluate_of t m.model range temperature rho) s h
            ∙ ap (λ (n : ℕ). filled (λ k. get_or (ln_phis t m.model m.gradients s temperature rho) k nan) n out) (ready bytes list fractions m e).components,
      ))

  -- "for roots too"
  pub roots_past_needed :
      (temperature pressure : Float) (out : List Float) (n : ℕ) → roots_call bytes list fractions temperature pressure out ≡ Ok n →
      (i : ℕ) → n * (4 + length list) ≤ i → get_or (roots_written bytes list fractions temperature pressure out) i nan ≡ get_or out i nan
  roots_past_needed temperature pressure out n h i past =
      roots_through bytes list fractions (λ a l. a ≡ Ok n → get_or l i nan ≡ get_or out i nan) temperature pressure out (λ r e k. refl)
      (λ m e k. scan.past_needed_stay t m.model m.gradients normal_range temperature pressure out n k i (rw (ready bytes list fractions m e).components past)) h
