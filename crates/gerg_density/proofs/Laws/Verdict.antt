-- A trial of the equation refuses by a number from 6 to 15, without a value; every one is fair, and its residual is that of a computed pressure. Assumes nothing.
use mathlib.Core.Path.{◌≡◌, refl, ap, sym, ◌∙◌}
use Prim.Native.Nat.{◌<◌}
use native.Mathlib.Omega.{arith}
use lib.Dec.{T}
use lib.Ieee.{Float}
use lib.Ieee.Positive.{positive}
use Rattle.gerg_tables.specs.declared.Tables.{Tables}
use Rattle.gerg_reducing.specs.declared.GergModel.{GergModel}
use Rattle.gerg.specs.declared.Range.{Range}
use Rattle.gerg.specs.Helmholtz.{helmholtz_of}
use Rattle.gerg.proofs.Laws.Numbers.{Derived, helmholtz_rows}
use Rattle.gerg.specs.Evaluate.{trial_pressure_of, stiffness_of}
use Rattle.gerg_refusals.specs.Refusal.{number_of, value_of}
use Rattle.gerg_density.specs.Density.{trial_of, verdict_of}
use Rattle.gerg_density.specs.Promised.{Computed}
use Rattle.gerg_search.proofs.Laws.Verdicts.{Fair}
use Rattle.gerg_density.proofs.Laws.Trial.{Scaled, sample_stopped, sample_residual}
use Rattle.std.specs.Prelude.{Result, Ok, Err}
use Rattle.gerg_derivatives.specs.declared.derivatives.GergDerivatives.{GergDerivatives}
use Rattle.gerg_refusals.specs.declared.Refusal.{Refusal}

-- the residual f at x comes of the computed pressure there
pub record Worked (t : Tables) (m : GergModel) (range : Range) (temperature target x f : Float) : Type 0 where
  pub pressure : Float
  pub computed : Computed t m range temperature x pressure
  pub scaled : Scaled target pressure f

module _ (t : Tables) (m : GergModel) (range : Range) (temperature target : Float) where
  -- a trial refuses by a number from 6 to 15, without a value: rows 6 to 9, 12 and 15
  pub verdict_stopped : (x : Float) (r : Refusal) → verdict_of t m range temperature target x ≡ Err r → (5 < number_of r) × (number_of r < 16) × (value_of r ≡ 0)
  unfolding verdict_of trial_of
  verdict_stopped x r e = go (helmholtz_of t m range temperature x) (helmholtz_rows t m range temperature x) e
    where
      go : (h : Result GergDerivatives Refusal) → Derived h → trial_of temperature target x h ≡ Err r → (5 < number_of r) × (number_of r < 16) × (value_of r ≡ 0)
      go (Ok a) l e = sample_stopped target (trial_pressure_of a temperature x) (stiffness_of a temperature) r e
      go (Err k) l e = let same : k ≡ r = cc in let q : number_of k ≡ number_of r = ap number_of same in let some = l.0 in let most = l.1 in (omega arith, omega arith, ap value_of (sym same) ∙ l.2)

  pub worked : T (positive target) → (x f d : Float) → verdict_of t m range temperature target x ≡ Ok (f, d) → Worked t m range temperature target x f
  unfolding verdict_of trial_of
  worked p x f d e = go (helmholtz_of t m range temperature x) refl e
    where
      go : (h : Result GergDerivatives Refusal) → helmholtz_of t m range temperature x ≡ h → trial_of temperature target x h ≡ Ok (f, d) → Worked t m range temperature target x f
      go (Ok a) q e =
          let w = trial_pressure_of a temperature x in
          record { pressure = w; computed = record { derivatives = a; answered = q; formula = refl }; scaled = sample_residual target w (stiffness_of a temperature) f d p e }
      go (Err n) q e = cc

  pub fair : T (positive target) → Fair (verdict_of t m range temperature target)
  fair p = record { number = λ x f d e. (worked p x f d e).scaled.signs.number; before = λ x r e. (verdict_stopped x r e).1 }
