-- `properties`, `fugacity` and `density` in a range and in one that the range is inside of: the same answers, but for rows 8, 11 and 14. Assumes nothing.
use mathlib.Core.Path.{◌≡◌, refl}
use mathlib.Core.Bool.{Bool, true, false}
use mathlib.Core.List.{List, []}
use Prim.Native.Nat.{ℕ, ◌<◌}
use native.Mathlib.Omega.{arith}
use lib.Ieee.{Float}
use Rattle.std.specs.Prelude.{Result, Ok, Err}
use Rattle.numerics.specs.Double.{pick}
use Rattle.gerg_refusals.specs.Answer.{number_of, and_then, memory_of}
use Rattle.gerg_refusals.specs.declared.Refusal.{Refusal}
use Rattle.gerg_refusals.specs.declared.Refusal.TheVariants as refusal
use Rattle.gerg_tables.specs.declared.Tables.{Tables}
use Rattle.gerg_coefficients.specs.Answer.{tables_of}
use Rattle.gerg.specs.declared.Range.{Range}
use Rattle.gerg.specs.Evaluate.{evaluate_of}
use Rattle.gerg.specs.declared.GergState.{GergState}
use Rattle.gerg_density.specs.Density.{density_of, density_trials}
use Rattle.gerg_density.specs.declared.DensityResult.{DensityResult}
use Rattle.gerg_search.specs.declared.Options.{Options}
use Rattle.gerg_prepared.specs.Mixed.{mixed_of}
use Rattle.gerg_prepared.specs.declared.Mixed.{Mixed}
use Rattle.gerg.proofs.Laws.Inside.{Inside, evaluate_inside}
use Rattle.gerg_density.proofs.Laws.Inside as search
use Rattle.gerg_search.specs.States.{Doubles}
use Rattle.gerg_calls.specs.Calls as calls

module _ (a b : Range) (i : Inside a b) (bytes list : List ℕ) (fractions : List Float) where
  abbrev t : Tables
  t = tables_of bytes

  abbrev mixed : Result Mixed Refusal
  mixed = mixed_of bytes list fractions

  module _ (temperature rho : Float) where
    pub properties_inside :
        (number_of (calls.properties_in bytes list fractions a temperature rho) ≡ 8 → ⊥) → (number_of (calls.properties_in bytes list fractions a temperature rho) ≡ 11 → ⊥) →
        calls.properties_in bytes list fractions b temperature rho ≡ calls.properties_in bytes list fractions a temperature rho
    unfolding calls.properties_in
    properties_inside = go mixed
      where
        after : Range → Result Mixed Refusal → Result GergState Refusal
        after range x = and_then x (λ m. evaluate_of t m.model range temperature rho)

        go : (x : Result Mixed Refusal) → (number_of (after a x) ≡ 8 → ⊥) → (number_of (after a x) ≡ 11 → ⊥) → after b x ≡ after a x
        go (Ok m) n8 n11 = evaluate_inside a b i t m.model temperature rho n8 n11
        go (Err r) n8 n11 = refl

    -- a state's refusal is that of its coefficients
    coefficients_number : (m : Mixed) (n : ℕ) (h : Result GergState Refusal) → 0 < n → number_of h ≡ n → number_of (calls.fugacity_after t m.model m.gradients temperature rho h) ≡ n
    unfolding calls.fugacity_after
    coefficients_number m n (Ok s) z q = absurd (omega arith)
    coefficients_number m n (Err r) z q = q

    module _ (out : List Float) where
      -- past row 24, where the state is the same
      abbrev answered : Range → Mixed → Bool → Result GergState Refusal
      answered range m short = pick short (Err (refusal.TooShort m.model.components)) (calls.fugacity_after t m.model m.gradients temperature rho (evaluate_of t m.model range temperature rho))

      abbrev left : Range → Mixed → Bool → List Float
      left range m short = pick short out (calls.memory_after t m.model m.gradients temperature rho out (evaluate_of t m.model range temperature rho))

      -- rows 1 to 5 refuse, the lent answer is too short, or the state is the same
      fugacity_alike :
          (P : Result GergState Refusal → List Float → Result GergState Refusal → List Float → Type 0) → ((x : Result GergState Refusal) (l : List Float) → P x l x l) →
          (number_of (calls.fugacity_in bytes list fractions a temperature rho out) ≡ 8 → ⊥) → (number_of (calls.fugacity_in bytes list fractions a temperature rho out) ≡ 11 → ⊥) →
          P (calls.fugacity_in bytes list fractions b temperature rho out) (calls.fugacity_written_in bytes list fractions b temperature rho out)
          (calls.fugacity_in bytes list fractions a temperature rho out) (calls.fugacity_written_in bytes list fractions a temperature rho out)
      unfolding calls.fugacity_in calls.fugacity_written_in calls.fugacity_from calls.memory_from
      fugacity_alike P same = go mixed
        where
          short_or : (m : Mixed) (short : Bool) → (number_of (answered a m short) ≡ 8 → ⊥) → (number_of (answered a m short) ≡ 11 → ⊥) → P (answered b m short) (left b m short) (answered a m short) (left a m short)
          short_or m true n8 n11 = same (Err (refusal.TooShort m.model.components)) out
          short_or m false n8 n11 =
              let e = evaluate_of t m.model a temperature rho in
              rw (evaluate_inside a b i t m.model temperature rho (λ h. n8 (coefficients_number m 8 e (omega arith) h)) (λ h. n11 (coefficients_number m 11 e (omega arith) h)))
              (same (calls.fugacity_after t m.model m.gradients temperature rho e) (calls.memory_after t m.model m.gradients temperature rho out e))

          go :
              (x : Result Mixed Refusal) → (number_of (and_then x (λ m. answered a m (calls.too_short m.model out))) ≡ 8 → ⊥) → (number_of (and_then x (λ m. answered a m (calls.too_short m.model out))) ≡ 11 → ⊥) →
              P (and_then x (λ m. answered b m (calls.too_short m.model out))) (memory_of x out (λ m. left b m (calls.too_short m.model out)))
              (and_then x (λ m. answered a m (calls.too_short m.model out))) (memory_of x out (λ m. left a m (calls.too_short m.model out)))
          go (Ok m) n8 n11 = short_or m (calls.too_short m.model out) n8 n11
          go (Err r) n8 n11 = same (Err r) out

      module _
          (n8 : number_of (calls.fugacity_in bytes list fractions a temperature rho out) ≡ 8 → ⊥) (n11 : number_of (calls.fugacity_in bytes list fractions a temperature rho out) ≡ 11 → ⊥) where
        pub fugacity_inside : calls.fugacity_in bytes list fractions b temperature rho out ≡ calls.fugacity_in bytes list fractions a temperature rho out
        fugacity_inside = fugacity_alike (λ x k y l. x ≡ y) (λ x l. refl) n8 n11

        pub fugacity_memory_inside : calls.fugacity_written_in bytes list fractions b temperature rho out ≡ calls.fugacity_written_in bytes list fractions a temperature rho out
        fugacity_memory_inside = fugacity_alike (λ x k y l. k ≡ l) (λ x l. refl) n8 n11

  module _ (temperature target : Float) (o : Options) (doubles : Doubles o)
      (n8 : number_of (calls.density_in bytes list fractions a temperature target o) ≡ 8 → ⊥) (n14 : number_of (calls.density_in bytes list fractions a temperature target o) ≡ 14 → ⊥) where
    abbrev after : Range → Result Mixed Refusal → Result DensityResult Refusal
    after range x = and_then x (λ m. density_of t m.model range temperature target o)

    pub density_inside :
        (number_of (calls.density_in bytes list fractions a temperature target o) ≡ 11 → ⊥) →
        calls.density_in bytes list fractions b temperature target o ≡ calls.density_in bytes list fractions a temperature target o
    unfolding calls.density_in
    density_inside = go mixed n8 n14
      where
        go : (x : Result Mixed Refusal) → (number_of (after a x) ≡ 8 → ⊥) → (number_of (after a x) ≡ 14 → ⊥) → (number_of (after a x) ≡ 11 → ⊥) → after b x ≡ after a x
        go (Ok m) n8 n14 n11 = search.density_inside a b i t m.model temperature target o doubles n8 n14 n11
        go (Err r) n8 n14 n11 = refl

    -- the trials, in row 11 too
    pub trials_inside : calls.density_trials_in bytes list fractions b temperature target o ≡ calls.density_trials_in bytes list fractions a temperature target o
    unfolding calls.density_in calls.density_trials_in
    trials_inside = go mixed n8 n14
      where
        go :
            (x : Result Mixed Refusal) → (number_of (after a x) ≡ 8 → ⊥) → (number_of (after a x) ≡ 14 → ⊥) →
            memory_of x [] (λ m. density_trials t m.model b temperature target o) ≡ memory_of x [] (λ m. density_trials t m.model a temperature target o)
        go (Ok m) n8 n14 = search.trials_inside a b i t m.model temperature target o doubles n8 n14
        go (Err r) n8 n14 = refl
