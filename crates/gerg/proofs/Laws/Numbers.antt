-- `helmholtz` refuses by a number from 6 to 9, `evaluate` by one from 6 to 12, both with the value 0. Assumes nothing.
use mathlib.Core.Path.{◌≡◌, refl}
use mathlib.Core.Bool.{Bool, true, false, not}
use Prim.Native.Nat.{ℕ, ◌≤◌, ◌<◌}
use native.Mathlib.Omega.{arith}
use lib.Ieee.{Float, le}
use lib.Ieee.Scale.{finite}
use Rattle.numerics.specs.Double.{+0, pick}
use Rattle.gerg_tables.specs.declared.Tables.{Tables}
use Rattle.gerg_reducing.specs.declared.GergModel.{GergModel}
use Rattle.gerg_reducing.specs.Reduced.{delta_of, tau_of}
use Rattle.gerg_derivatives.specs.declared.derivatives.GergDerivatives.{GergDerivatives}
use Rattle.gerg_derivatives.specs.Derivatives.{zero_derivatives}
use Rattle.gerg_terms.specs.Terms.{components_of}
use Rattle.gerg.specs.declared.GergState.{GergState}
use Rattle.gerg.specs.declared.Range.{Range}
use Rattle.gerg.specs.Helmholtz.{helmholtz_of, checked_of, within_range, all_finite}
use Rattle.gerg_refusals.specs.Answer.{number_of, value_of}
use Rattle.gerg_refusals.specs.Refusal as of_refusal
use Rattle.gerg_refusals.proofs.Then.{accepted}
use Rattle.gerg.specs.Evaluate.{evaluate_of, admitted_answer, admitted_of, unstable, pressure_out, pressure_of, finite_state, state_of}
use Rattle.std.specs.Prelude.{Result, Ok, Err, IfErr}
use Rattle.std.proofs.lemmas.Result.{IfErr-weaker}
use Rattle.gerg_refusals.specs.declared.Refusal.{Refusal}
use Rattle.gerg_refusals.specs.declared.Refusal.TheVariants as refusal

-- the number of an answer: 0, or one past rows 1 to 5 and at most `last`
pub record Late (last n : ℕ) : Type 0 where
  pub most : n ≤ last
  pub late : (n ≡ 0 → ⊥) → 5 < n

pub late_none : (last : ℕ) → Late last 0
late_none last = record { most = omega arith; late = λ h. absurd (h refl) }

pub late_row : (last n : ℕ) → 5 < n → n ≤ last → Late last n
late_row last n h k = record { most = k; late = λ z. h }

-- a refusal of a row from 6 to `last`
abbrev pub Numbered : ℕ → Refusal → Type 0
Numbered last r = (5 < of_refusal.number_of r) × (of_refusal.number_of r ≤ last)

-- and with no value
abbrev pub Row : ℕ → Refusal → Type 0
Row last r = (5 < of_refusal.number_of r) × (of_refusal.number_of r ≤ last) × (of_refusal.value_of r ≡ 0)

-- the number and the value of an answer that such rows alone refuse
module _ {A : Type 0} (last : ℕ) where
  pub late_numbered : (x : Result A Refusal) → IfErr x (Numbered last) → Late last (number_of x)
  late_numbered (Ok a) row = late_none last
  late_numbered (Err r) row = late_row last _ row.0 row.1

  pub late_rows : (x : Result A Refusal) → IfErr x (Row last) → Late last (number_of x)
  late_rows x row = late_numbered x (IfErr-weaker x (Row last) (Numbered last) (λ r h. (h.0, h.1)) row)

  pub value_0 : (x : Result A Refusal) → IfErr x (Row last) → value_of x ≡ 0
  value_0 (Ok a) row = refl
  value_0 (Err r) row = row.2

-- an answer that rows 6 to 9 alone refuse
abbrev pub Derived : Result GergDerivatives Refusal → Type 0
Derived h = IfErr h (Row 9)

rows_6_to_9 : (p q r f : Bool) (a : GergDerivatives) →
    Derived (pick p (Err refusal.DensityNotFinite) (pick q (Err refusal.DensityNotPositive) (pick r (Err refusal.OutsideRange) (pick f (Ok a) (Err refusal.Derivative)))))
rows_6_to_9 true q r f a = (omega arith, omega arith, refl)
rows_6_to_9 false true r f a = (omega arith, omega arith, refl)
rows_6_to_9 false false true f a = (omega arith, omega arith, refl)
rows_6_to_9 false false false true a = tt
rows_6_to_9 false false false false a = (omega arith, omega arith, refl)

-- and rows 10 to 12 besides
abbrev pub Evaluated : Result GergState Refusal → Type 0
Evaluated e = IfErr e (Row 12)

rows_10_to_12 : (p q f : Bool) (s : GergState) → Evaluated (pick p (Err refusal.Unstable) (pick q (Err refusal.Pressure) (pick f (Ok s) (Err refusal.NotFinite))))
rows_10_to_12 true q f s = (omega arith, omega arith, refl)
rows_10_to_12 false true f s = (omega arith, omega arith, refl)
rows_10_to_12 false false true s = tt
rows_10_to_12 false false false s = (omega arith, omega arith, refl)

after : (temperature rho mass high : Float) (h : Result GergDerivatives Refusal) → Derived h → Evaluated (admitted_answer temperature rho mass high h)
unfolding admitted_answer admitted_of
after temperature rho mass high (Ok a) d =
    rows_10_to_12 (unstable a temperature) (pressure_out high (pressure_of a temperature rho)) (finite_state (state_of a temperature rho mass)) (state_of a temperature rho mass)
after temperature rho mass high (Err r) d = let k = d.1 in (d.0, omega arith, d.2)

module _ (t : Tables) (m : GergModel) (range : Range) (temperature rho : Float) where
  pub helmholtz_rows : Derived (helmholtz_of t m range temperature rho)
  unfolding helmholtz_of checked_of
  helmholtz_rows =
      let a = components_of t m.fractions temperature rho (delta_of m rho) (tau_of m temperature) zero_derivatives in
      rows_6_to_9 (not (finite rho)) (le rho +0) (not (within_range range temperature rho)) (all_finite a) a

  pub evaluate_rows : Evaluated (evaluate_of t m range temperature rho)
  unfolding evaluate_of
  evaluate_rows = after temperature rho m.molar_mass range.pressure_high (helmholtz_of t m range temperature rho) helmholtz_rows

  pub helmholtz_numbers : Late 9 (number_of (helmholtz_of t m range temperature rho))
  helmholtz_numbers = late_rows 9 (helmholtz_of t m range temperature rho) helmholtz_rows

  pub evaluate_numbers : Late 12 (number_of (evaluate_of t m range temperature rho))
  evaluate_numbers = late_rows 12 (evaluate_of t m range temperature rho) evaluate_rows

  pub evaluate_at_most_12 : number_of (evaluate_of t m range temperature rho) ≤ 12
  evaluate_at_most_12 = evaluate_numbers.most

  -- number 0 means a state
  pub evaluate_accepted : number_of (evaluate_of t m range temperature rho) ≡ 0 → (s : GergState) × (evaluate_of t m range temperature rho ≡ Ok s)
  evaluate_accepted = accepted (evaluate_of t m range temperature rho)

  -- "The value is 0 unless given"
  pub helmholtz_no_value : value_of (helmholtz_of t m range temperature rho) ≡ 0
  helmholtz_no_value = value_0 9 (helmholtz_of t m range temperature rho) helmholtz_rows

  pub evaluate_no_value : value_of (evaluate_of t m range temperature rho) ≡ 0
  evaluate_no_value = value_0 12 (evaluate_of t m range temperature rho) evaluate_rows
