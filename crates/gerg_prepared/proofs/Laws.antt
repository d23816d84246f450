-- What a mixture that passed rows 1 to 5 has: tables within their limits, and a model of at most 21 known components, as many as the list is long. Assumes nothing.
use mathlib.Core.Path.{◌≡◌, refl, sym, ap, ◌∙◌, subst}
use mathlib.Core.Bool.{Bool, true, false}
use mathlib.Core.List.{List}
use Prim.Native.Nat.{ℕ}
use lib.Ieee.{Float}
use lib.ListN.{length}
use Rattle.std.specs.Prelude.{Result, Ok, Err, IfOk}
use Rattle.numerics.specs.Double.{pick}
use Rattle.gerg_refusals.specs.Answer.{and_then}
use Rattle.gerg_refusals.specs.declared.Refusal.{Refusal}
use Rattle.gerg_refusals.specs.declared.Refusal.TheVariants as refusal
use Rattle.gerg_coefficients.specs.Answer.{answer_of, tables_of}
use Rattle.gerg_tables.specs.Tables.{Shaped}
use Rattle.gerg_tables.specs.declared.Tables.{Tables}
use Rattle.gerg_coefficients.proofs.Shaped.{accepted_shaped}
use Rattle.gerg_reducing.specs.declared.GergModel.{GergModel}
use Rattle.gerg_model.specs.MixtureCheck.{check_of}
use Rattle.gerg_model.proofs.Laws.Accepted.{accepted, listed, as_listed}
use Rattle.gerg_model.specs.Mixture.{model_of, reducing_sound}
use Rattle.gerg_reducing.specs.Reducing.{gradients_of}
use Rattle.gerg_reducing.specs.Listed.{Listed}
use Rattle.gerg_prepared.specs.Mixed.{sound_mixture, reduced_mixture, checked_from, mixed_from, mixed_of}
use Rattle.gerg_prepared.specs.declared.Mixed.{Mixed}

-- the model of a mixture that passed row 5
sound_model : (b : Bool) (model : GergModel) (gradients : List (List Float)) (m : Mixed) → pick b (Ok (record { model = model; gradients = gradients })) (Err refusal.Reducing) ≡ Ok m → m.model ≡ model
sound_model true model gradients m e = let same : record { model = model; gradients = gradients } ≡ m = cc in sym (ap (λ (x : Mixed). x.model) same)
sound_model false model gradients m e = cc

reduced_model : (doubles : List Float) (list : List ℕ) (fractions : List Float) (m : Mixed) → reduced_mixture doubles list fractions ≡ Ok m → m.model ≡ model_of doubles list fractions
unfolding reduced_mixture sound_mixture
reduced_model doubles list fractions m e =
    let model = model_of doubles list fractions in
    sound_model (reducing_sound model (gradients_of doubles model.fractions)) model (gradients_of doubles model.fractions) m e

-- what the layers below ask of a public call, and the length of the list
pub record Ready (bytes list : List ℕ) (m : Mixed) : Type 0 where
  pub shaped : Shaped (tables_of bytes)
  pub known : Listed m.model
  pub components : m.model.components ≡ length list

module _ (bytes list : List ℕ) (fractions : List Float) (m : Mixed) where
  ready_checked : (n : ℕ) → answer_of bytes ≡ Ok n → (c : Result (Unit {0}) Refusal) → check_of list fractions ≡ c →
      and_then c (λ u. reduced_mixture (tables_of bytes).doubles list fractions) ≡ Ok m → Ready bytes list m
  ready_checked n a (Ok u) q e =
      let same = reduced_model (tables_of bytes).doubles list fractions m e in
      record {
        shaped = accepted_shaped bytes n a;
        known = subst Listed (sym same) (listed (tables_of bytes).doubles list fractions (accepted list fractions q));
        components = ap (λ (g : GergModel). g.components) same ∙ as_listed (tables_of bytes).doubles list fractions;
      }
  ready_checked n a (Err r) q e = cc

  ready_file : (a : Result ℕ Refusal) → answer_of bytes ≡ a → and_then a (λ n. checked_from (tables_of bytes).doubles list fractions) ≡ Ok m → Ready bytes list m
  unfolding checked_from
  ready_file (Ok n) a e = ready_checked n a (check_of list fractions) refl e
  ready_file (Err r) a e = cc

  pub ready : mixed_of bytes list fractions ≡ Ok m → Ready bytes list m
  unfolding mixed_of mixed_from
  ready = ready_file (answer_of bytes) refl

-- two files with one answer and the same tables make the same mixture
pub same_mixed : (a b list : List ℕ) (fractions : List Float) → answer_of a ≡ answer_of b → tables_of a ≡ tables_of b → mixed_of a list fractions ≡ mixed_of b list fractions
unfolding mixed_of
same_mixed a b list fractions answer same = rw (answer, same)

-- a file that rows 1 and 2 refuse
pub file_rows : (bytes list : List ℕ) (fractions : List Float) (r : Refusal) → answer_of bytes ≡ Err r → mixed_of bytes list fractions ≡ Err r
unfolding mixed_of mixed_from
file_rows bytes list fractions r e = rw e

-- ---- what `prepare` has of the file that it read into two arrays
module _ (bytes list : List ℕ) (fractions : List Float) where
  pub prepared_answer : {t : Tables} {a : Result ℕ Refusal} → t ≡ tables_of bytes → a ≡ answer_of bytes → mixed_from t.doubles a list fractions ≡ mixed_of bytes list fractions
  unfolding mixed_of
  prepared_answer e h = rw (e, h)

  if_ok : (P : Mixed → Type 0) (x : Result Mixed Refusal) → ((m : Mixed) → x ≡ Ok m → P m) → IfOk x P
  if_ok P (Ok m) f = f m refl
  if_ok P (Err r) f = tt

  pub prepared_shaped : {t : Tables} (x : Result Mixed Refusal) → t ≡ tables_of bytes → x ≡ mixed_of bytes list fractions → IfOk x (λ m. Shaped t)
  prepared_shaped x e q = if_ok (λ m. Shaped _) x (λ m h. subst Shaped (sym e) (ready bytes list fractions m (sym q ∙ h)).shaped)

  pub prepared_listed : (x : Result Mixed Refusal) → x ≡ mixed_of bytes list fractions → IfOk x (λ m. Listed m.model)
  prepared_listed x q = if_ok (λ m. Listed m.model) x (λ m h. (ready bytes list fractions m (sym q ∙ h)).known)
