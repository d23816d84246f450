-- What an accepted answer says: every test of rows 6 to 12 was passed, and the numbers are those of the definitions. Assumes nothing.
use mathlib.Core.Bool.{Bool, true, false, not}
use mathlib.Core.Path.{◌≡◌, refl, ap, ◌∙◌}
use lib.Ieee.{Float, le}
use lib.Ieee.Scale.{finite}
use Rattle.numerics.specs.Tests.{or_false}
use Rattle.numerics.specs.Double.{+0, pick}
use Rattle.gerg_tables.specs.declared.Tables.{Tables}
use Rattle.gerg_reducing.specs.declared.GergModel.{GergModel}
use Rattle.gerg.specs.declared.GergState.{GergState}
use Rattle.gerg.specs.declared.Range.{Range}
use Rattle.gerg_derivatives.specs.declared.derivatives.GergDerivatives.{GergDerivatives}
use Rattle.gerg_reducing.specs.Reduced.{delta_of, tau_of}
use Rattle.gerg_derivatives.specs.Derivatives.{zero_derivatives}
use Rattle.gerg_terms.specs.Terms.{components_of}
use Rattle.gerg.specs.Helmholtz.{helmholtz_of, checked_of, within_range, all_finite}
use Rattle.gerg.specs.Evaluate.{evaluate_of, admitted_answer, admitted_of, unstable, stiffness_of, cv_of, pressure_of, pressure_out, parts_of, state_of, state_from, finite_state}
use Rattle.std.specs.Prelude.{Result, Ok, Err}
use Rattle.gerg_refusals.specs.declared.Refusal.{Refusal}
use Rattle.gerg_refusals.specs.declared.Refusal.TheVariants as refusal

-- rows 6 to 9 passed
pub record Derived (t : Tables) (m : GergModel) (range : Range) (temperature rho : Float) (a : GergDerivatives) : Type 0 where
  pub density_finite : finite rho ≡ true
  pub density_positive : le rho +0 ≡ false
  pub within : within_range range temperature rho ≡ true
  pub sums : a ≡ components_of t m.fractions temperature rho (delta_of m rho) (tau_of m temperature) zero_derivatives
  pub all_finite_lem : all_finite a ≡ true

module _ (t : Tables) (m : GergModel) (range : Range) (temperature rho : Float) (a : GergDerivatives) where
  abbrev total : GergDerivatives
  total = components_of t m.fractions temperature rho (delta_of m rho) (tau_of m temperature) zero_derivatives

  checked_from : (f : Bool) → all_finite total ≡ f → pick f (Ok total) (Err refusal.Derivative) ≡ Ok a → (a ≡ total) × (all_finite a ≡ true)
  checked_from true e q = let same : a ≡ total = cc in (same, ap all_finite same ∙ e)
  checked_from false e q = cc

  derived_from : (x y w : Bool) → finite rho ≡ x → le rho +0 ≡ y → within_range range temperature rho ≡ w →
      pick (not x) (Err refusal.DensityNotFinite) (pick y (Err refusal.DensityNotPositive) (pick (not w) (Err refusal.OutsideRange) (checked_of total))) ≡ Ok a → Derived t m range temperature rho a
  unfolding checked_of
  derived_from false y w ex ey ew q = cc
  derived_from true true w ex ey ew q = cc
  derived_from true false false ex ey ew q = cc
  derived_from true false true ex ey ew q =
      let r = checked_from (all_finite total) refl q in
      record { density_finite = ex; density_positive = ey; within = ew; sums = r.0; all_finite_lem = r.1 }

-- derivatives are answered only where rows 6 to 9 are passed
pub helmholtz_derived : (t : Tables) (m : GergModel) (range : Range) (temperature rho : Float) (a : GergDerivatives) →
    helmholtz_of t m range temperature rho ≡ Ok a → Derived t m range temperature rho a
unfolding helmholtz_of
helmholtz_derived t m range temperature rho a q = derived_from t m range temperature rho a (finite rho) (le rho +0) (within_range range temperature rho) refl refl refl q

-- rows 6 to 12 passed
pub record Admitted (t : Tables) (m : GergModel) (range : Range) (temperature rho : Float) (s : GergState) : Type 0 where
  pub derivatives : helmholtz_of t m range temperature rho ≡ Ok s.derivatives
  pub state : s ≡ state_of s.derivatives temperature rho m.molar_mass
  pub stiffness_positive : le s.dp_drho +0 ≡ false
  pub cv_positive : le s.cv +0 ≡ false
  pub pressure_within : pressure_out range.pressure_high s.pressure_pa ≡ false
  pub numbers_finite : finite_state s ≡ true

module _ (t : Tables) (m : GergModel) (range : Range) (temperature rho : Float) (s : GergState) where
  admitted_from : (a : GergDerivatives) → helmholtz_of t m range temperature rho ≡ Ok a → (u p f : Bool) → unstable a temperature ≡ u →
      pressure_out range.pressure_high (pressure_of a temperature rho) ≡ p → finite_state (state_of a temperature rho m.molar_mass) ≡ f →
      pick u (Err refusal.Unstable) (pick p (Err refusal.Pressure) (pick f (Ok (state_of a temperature rho m.molar_mass)) (Err refusal.NotFinite))) ≡ Ok s → Admitted t m range temperature rho s
  unfolding unstable state_of state_from parts_of
  admitted_from a h true p f eu ep ef q = cc
  admitted_from a h false true f eu ep ef q = cc
  admitted_from a h false false false eu ep ef q = cc
  admitted_from a h false false true eu ep ef q =
      let same : s ≡ state_of a temperature rho m.molar_mass = cc in
      let tests = or_false (le (stiffness_of a temperature) +0) (le (cv_of a) +0) eu in
      rw same (record { derivatives = h; state = refl; stiffness_positive = tests.0; cv_positive = tests.1; pressure_within = ep; numbers_finite = ef })

  answer_from : (h : Result GergDerivatives Refusal) → helmholtz_of t m range temperature rho ≡ h →
      admitted_answer temperature rho m.molar_mass range.pressure_high h ≡ Ok s → Admitted t m range temperature rho s
  unfolding admitted_answer admitted_of
  answer_from (Ok a) e q = admitted_from a e (unstable a temperature) (pressure_out range.pressure_high (pressure_of a temperature rho)) (finite_state (state_of a temperature rho m.molar_mass)) refl refl refl q
  answer_from (Err r) e q = cc

-- a state is answered only where rows 6 to 12 are passed, and is that of its derivatives
pub evaluate_admitted : (t : Tables) (m : GergModel) (range : Range) (temperature rho : Float) (s : GergState) →
    evaluate_of t m range temperature rho ≡ Ok s → Admitted t m range temperature rho s
unfolding evaluate_of
evaluate_admitted t m range temperature rho s q = answer_from t m range temperature rho s (helmholtz_of t m range temperature rho) refl q
