-- What follows rows 1 to 5: numbers, values and lent memory of the calls. Assumes nothing.
use mathlib.Core.Path.{◌≡◌, refl, ◌∙◌, subst}
use mathlib.Core.List.{List}
use Prim.Native.Nat.{ℕ}
use lib.Ieee.{Float, nan}
use lib.ListN.{get_or}
use Rattle.std.specs.Prelude.{Result, Ok, Err}
use Rattle.numerics.specs.Fill.{filled}
use Rattle.gerg_refusals.specs.Answer.{number_of, value_of, and_then}
use Rattle.gerg_refusals.specs.declared.Refusal.{Refusal}
use Rattle.gerg_refusals.proofs.Then.{then_ok}
use Rattle.gerg_tables.specs.declared.Tables.{Tables}
use Rattle.gerg_coefficients.specs.Answer.{answer_of, tables_of}
use Rattle.gerg_reducing.specs.declared.GergModel.{GergModel}
use Rattle.gerg.specs.declared.Range.{Range}
use Rattle.gerg.specs.Evaluate.{evaluate_of}
use Rattle.gerg.specs.declared.GergState.{GergState}
use Rattle.gerg_fugacity.specs.Fugacity.{ln_phis, fugacity_of, fugacity_memory}
use Rattle.gerg_density.specs.Density.{density_of}
use Rattle.gerg_search.specs.declared.Options.{Options}
use Rattle.gerg_prepared.specs.Mixed.{mixed_of}
use Rattle.gerg_prepared.specs.declared.Mixed.{Mixed}
use Rattle.gerg.proofs.Laws.Numbers.{Late, late_none, evaluate_numbers, evaluate_no_value}
use Rattle.gerg_fugacity.proofs.Laws.Numbers as numbers
use Rattle.gerg_fugacity.proofs.Laws.Memory.{fugacity_leaves, fugacity_writes}
use Rattle.gerg_prepared.proofs.Laws.{same_mixed}
use Rattle.gerg_calls.specs.Calls.{properties_in, fugacity_after, memory_after, density_in}

module _ (bytes list : List ℕ) (fractions : List Float) (range : Range) (temperature : Float) (m : Mixed) (e : mixed_of bytes list fractions ≡ Ok m) where
  -- what `properties` answers past rows 1 to 5
  pub properties_state : (rho : Float) → properties_in bytes list fractions range temperature rho ≡ evaluate_of (tables_of bytes) m.model range temperature rho
  unfolding properties_in
  properties_state rho = then_ok (mixed_of bytes list fractions) (λ m. evaluate_of (tables_of bytes) m.model range temperature rho) m e

  -- and `density`
  pub density_answer : (target : Float) (o : Options) → density_in bytes list fractions range temperature target o ≡ density_of (tables_of bytes) m.model range temperature target o
  unfolding density_in
  density_answer target o = then_ok (mixed_of bytes list fractions) (λ m. density_of (tables_of bytes) m.model range temperature target o) m e

-- two files with one answer and the same tables have the same properties
pub same_properties :
    (a b list : List ℕ) (fractions : List Float) (range : Range) (temperature rho : Float) → answer_of a ≡ answer_of b → tables_of a ≡ tables_of b → properties_in a list fractions range temperature rho ≡ properties_in b list fractions range temperature rho
unfolding properties_in
same_properties a b list fractions range temperature rho answer same = rw (same, same_mixed a b list fractions answer same)

-- ---- a state's coefficients
module _ (t : Tables) (m : GergModel) (gradients : List (List Float)) (range : Range) (temperature rho : Float) where
  abbrev e : Result GergState Refusal
  e = evaluate_of t m range temperature rho

  -- what holds of the refusals of a state and of its coefficients, and of its state, holds of the answer
  after_holds :
      (P : Result GergState Refusal → Type 0) (a : Result GergState Refusal) → ((r : Refusal) → a ≡ Err r → P (Err r)) →
      ((s : GergState) → a ≡ Ok s → (c : Result (Unit {0}) Refusal) → fugacity_of t m gradients s temperature rho ≡ c → P (and_then c (λ passed. Ok s))) → P (fugacity_after t m gradients temperature rho a)
  unfolding fugacity_after
  after_holds P (Ok s) f g = g s refl (fugacity_of t m gradients s temperature rho) refl
  after_holds P (Err r) f g = f r refl

  pub fugacity_numbers : Late 12 (number_of (fugacity_after t m gradients temperature rho e))
  fugacity_numbers =
      after_holds (λ a. Late 12 (number_of a)) e (λ r q. subst (λ (a : Result GergState Refusal). Late 12 (number_of a)) q (evaluate_numbers t m range temperature rho))
      (λ s q c h. go s c (subst (λ (c : Result (Unit {0}) Refusal). Late 12 (number_of c)) h (numbers.fugacity_numbers t m gradients s temperature rho)))
    where
      go : (s : GergState) (c : Result (Unit {0}) Refusal) → Late 12 (number_of c) → Late 12 (number_of (and_then c (λ passed. Ok s)))
      go s (Ok u) h = late_none 12
      go s (Err r) h = h

  -- its value is that of the state's answer: coefficients are refused with none
  pub fugacity_value : (a : Result GergState Refusal) → value_of (fugacity_after t m gradients temperature rho a) ≡ value_of a
  unfolding fugacity_after
  fugacity_value (Ok s) = go (fugacity_of t m gradients s temperature rho) (numbers.fugacity_value_0 t m gradients s temperature rho)
    where
      go : (c : Result (Unit {0}) Refusal) → value_of c ≡ 0 → value_of (and_then c (λ passed. Ok s)) ≡ 0
      go (Ok u) h = refl
      go (Err r) h = h
  fugacity_value (Err r) = refl

  pub fugacity_no_value : value_of (fugacity_after t m gradients temperature rho e) ≡ 0
  fugacity_no_value = fugacity_value e ∙ evaluate_no_value t m range temperature rho

  -- a refused state or refused coefficients leave the lent memory
  pub fugacity_memory_lem : (out : List Float) (a : Result GergState Refusal) → (number_of (fugacity_after t m gradients temperature rho a) ≡ 0 → ⊥) → memory_after t m gradients temperature rho out a ≡ out
  unfolding fugacity_after memory_after
  fugacity_memory_lem out (Ok s) h = fugacity_leaves t m gradients s temperature rho out (λ z. h (go (fugacity_of t m gradients s temperature rho) z))
    where
      go : (c : Result (Unit {0}) Refusal) → number_of c ≡ 0 → number_of (and_then c (λ passed. Ok s)) ≡ 0
      go (Ok u) z = refl
      go (Err r) z = z
  fugacity_memory_lem out (Err r) h = refl

  -- accepted ones stand in its first places
  pub fugacity_written :
      (out : List Float) (a : Result GergState Refusal) (s : GergState) → fugacity_after t m gradients temperature rho a ≡ Ok s →
      memory_after t m gradients temperature rho out a ≡ filled (λ k. get_or (ln_phis t m gradients s temperature rho) k nan) m.components out
  unfolding fugacity_after memory_after
  fugacity_written out (Ok z) s h = go (fugacity_of t m gradients z temperature rho) refl h
    where
      go :
          (c : Result (Unit {0}) Refusal) → fugacity_of t m gradients z temperature rho ≡ c → and_then c (λ passed. Ok z) ≡ Ok s →
          fugacity_memory t m gradients z temperature rho out ≡ filled (λ k. get_or (ln_phis t m gradients s temperature rho) k nan) m.components out
      go (Ok u) q e =
          let same : z ≡ s = cc in
          subst
          (λ (x : GergState). fugacity_memory t m gradients z temperature rho out ≡ filled (λ k. get_or (ln_phis t m gradients x temperature rho) k nan) m.components out)
          same (fugacity_writes t m gradients z temperature rho out q)
      go (Err r) q e = cc
  fugacity_written out (Err r) s h = cc
