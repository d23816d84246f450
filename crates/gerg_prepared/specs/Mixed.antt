-- Rows 1 to 5, which every public call meets first, in their order, and the model of a mixture that passes them.
use Rattle.std.specs.Prelude.{◌≡◌, List, ℕ, Float, Result, Ok, Err}
use Rattle.numerics.specs.Double.{pick}
use Rattle.gerg_refusals.specs.Answer.{and_then}
use Rattle.gerg_refusals.specs.declared.Refusal.{Refusal}
use Rattle.gerg_refusals.specs.declared.Refusal.TheVariants as refusal
use Rattle.gerg_coefficients.specs.Answer.{answer_of, tables_of}
use Rattle.gerg_reducing.specs.declared.GergModel.{GergModel}
use Rattle.gerg_model.specs.MixtureCheck.{check_of}
use Rattle.gerg_model.specs.Mixture.{model_of, reducing_sound}
use Rattle.gerg_reducing.specs.Reducing.{gradients_of}
use Rattle.gerg_prepared.specs.declared.Mixed.{Mixed}

-- "reducing values not finite and positive, or gradient nonfinite: 5"
unfoldable pub sound_mixture : GergModel → List (List Float) → Result Mixed Refusal
sound_mixture model gradients = pick (reducing_sound model gradients) (Ok (record { model = model; gradients = gradients })) (Err refusal.Reducing)

unfoldable pub reduced_mixture : List Float → List ℕ → List Float → Result Mixed Refusal
reduced_mixture doubles list fractions =
    sound_mixture (model_of doubles list fractions) (gradients_of doubles (model_of doubles list fractions).fractions)

-- rows 3 and 4, then 5
unfoldable pub checked_from : List Float → List ℕ → List Float → Result Mixed Refusal
checked_from doubles list fractions = and_then (check_of list fractions) (λ passed. reduced_mixture doubles list fractions)

-- rows 1 and 2, then the rest
unfoldable pub mixed_from : List Float → Result ℕ Refusal → List ℕ → List Float → Result Mixed Refusal
mixed_from doubles answer list fractions = and_then answer (λ length. checked_from doubles list fractions)

-- "A public call for a mixture starts from the file's bytes, list and fractions, and meets rows 1 to 5 first, in their order"
unfoldable pub mixed_of : List ℕ → List ℕ → List Float → Result Mixed Refusal
mixed_of bytes list fractions = mixed_from (tables_of bytes).doubles (answer_of bytes) list fractions

-- request 05: neither row 3's number nor row 4's
abbrev pub PassesRows3And4 : ℕ → Type 0
PassesRows3And4 n = (n ≡ 3 → ⊥) × (n ≡ 4 → ⊥)
