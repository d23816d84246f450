-- The cases of document 01 that are proved about the definitions, gathered into one table and one theorem. Assumes nothing.
use mathlib.Core.Path.{◌≡◌, refl, sym, ap, ◌∙◌}
use mathlib.Core.List.{List, [], ◌∷◌}
use Prim.Native.Nat.{ℕ}
use native.Mathlib.Omega.{arith}
use lib.Ieee.{Float, nan, neg}
use lib.ListN.{get_or}
use Rattle.numerics.specs.Double.{bits, +0, one, two}
use Rattle.elementary_exp.specs.Exp.{exp_of}
use Rattle.elementary_ln.specs.Ln.{ln_of}
use Rattle.elementary_sqrt.specs.Sqrt.{sqrt_of}
use Rattle.elementary_exp.proofs.ExpLaws.{exp_zero, exp_minus_zero}
use Rattle.elementary_ln.proofs.LnLaws.{ln_one}
use Rattle.elementary_sqrt.proofs.SqrtLaws.{sqrt_four}
use Rattle.gerg_tables.specs.declared.Tables.{Tables}
use Rattle.gerg_coefficients.specs.Answer as File
use Rattle.gerg_coefficients.specs.Answer.{answer_of, tables_of}
use Rattle.gerg_coefficients.proofs.Examples.{empty_file_number, empty_file_value}
use Rattle.gerg_reducing.specs.declared.GergModel.{GergModel}
use Rattle.gerg_model.specs.Mixture.{by_component, model_of}
use Rattle.gerg_reducing.specs.Reducing.{gradients_of}
use Rattle.gerg_model_cases.specs.Cases.{equal_tables}
use Rattle.gerg_model_cases.proofs.Cases.{pure_density, pure_temperature, pure_gradient, halves_density}
use Rattle.gerg_derivatives.specs.Derivatives.{zero_derivatives, term_of}
use Rattle.gerg_derivatives.proofs.Laws.Cases.{term_case}
use Rattle.gerg_reducing.specs.Reduced.{delta_of, tau_of}
use Rattle.gerg_terms.specs.Terms.{components_of}
use Rattle.gerg.specs.Helmholtz.{helmholtz_of, normal_range, checked_of}
use Rattle.gerg.proofs.Laws.Cases.{passes_200, below_200, density_first}
use Rattle.gerg_density.specs.Cases.{empty_at}
use Rattle.gerg_density.proofs.Laws.Cases.{case_13}
use Rattle.gerg_refusals.specs.Answer.{number_of, value_of}
use Rattle.gerg_refusals.proofs.Then.{accepted}
use Rattle.gerg_prepared.specs.Mixed.{mixed_of}
use Rattle.gerg_prepared.proofs.Laws.{file_rows}
use Rattle.gerg_calls.specs.Calls.{properties_of, density_call}
use Rattle.gerg_api.specs.Promised.{Prepared}
use Rattle.gerg_calls.proofs.Laws.After.{density_answer}
use Rattle.gerg_api.proofs.Promises.Refusals.{properties_rows}
use Rattle.std.specs.Prelude.{Result, Ok, Err}
use Rattle.gerg_refusals.specs.declared.Refusal.TheVariants as refusal
use Rattle.gerg_refusals.specs.declared.Refusal.{Refusal}

pub record Cases : Type 0 where
  -- "exp 0 = 1; ln 1 = 0; sqrt 4 = 2"
  pub exp_0 : exp_of +0 ≡ one
  pub exp_minus_0 : exp_of (neg +0) ≡ one
  pub ln_1 : ln_of one ≡ +0
  pub sqrt_4 : sqrt_of (bits 0x4010_0000_0000_0000) ≡ two
  -- "pure, b = 1, gv = 0.125, gt = 200: density 8000, temperature 200, own volume gradient 0.25"
  pub density_8000 : (model_of equal_tables (1 ∷ []) (one ∷ [])).reducing_density ≡ bits 0x40bf_4000_0000_0000
  pub temperature_200 : (model_of equal_tables (1 ∷ []) (one ∷ [])).reducing_temperature ≡ bits 0x4069_0000_0000_0000
  pub own_gradient : get_or (get_or (gradients_of equal_tables (by_component (1 ∷ []) (one ∷ []))) 0 []) 0 nan ≡ bits 0x3fd0_0000_0000_0000
  -- "two halves, all b = 1, gv = 0.125: density 8000"
  pub halves :
      (model_of equal_tables (1 ∷ 2 ∷ []) (bits 0x3fe0_0000_0000_0000 ∷ bits 0x3fe0_0000_0000_0000 ∷ [])).reducing_density ≡ bits 0x40bf_4000_0000_0000
  -- "`term`, zero record, value 2, t 2, slope 3, curvature 0: ar 2, ar_d 6, ar_dd 12, ar_t 4, ar_tt 4, ar_dt 12"
  pub one_term :
      term_of zero_derivatives two two (bits 0x4008_0000_0000_0000) +0 ≡
      record {
        ar = two;
        ar_d = bits 0x4018_0000_0000_0000;
        ar_dd = bits 0x4028_0000_0000_0000;
        ar_t = bits 0x4010_0000_0000_0000;
        ar_tt = bits 0x4010_0000_0000_0000;
        ar_dt = bits 0x4028_0000_0000_0000;
        a0 = +0;
        a0_t = +0;
        a0_tt = +0;
      }
  -- "T 200 passes, the double below is 8; density −1 at T 100 is 7"
  pub t_200 :
      (t : Tables) (m : GergModel) →
      helmholtz_of t m normal_range (bits 0x4069_0000_0000_0000) one ≡ checked_of (components_of t m.fractions (bits 0x4069_0000_0000_0000) one (delta_of m one) (tau_of m (bits 0x4069_0000_0000_0000)) zero_derivatives)
  pub t_below_200 : (t : Tables) (m : GergModel) → helmholtz_of t m normal_range (bits 0x4068_ffff_ffff_ffff) one ≡ Err refusal.OutsideRange
  pub density_minus_1 : (t : Tables) (m : GergModel) → helmholtz_of t m normal_range (bits 0x4059_0000_0000_0000) (neg one) ≡ Err refusal.DensityNotPositive
  -- "lo = hi, limit 0, tolerance 0: 13"
  pub no_bracket :
      (bytes list : List ℕ) (fractions : List Float) (temperature target x : Float) → Prepared bytes list fractions →
      (number_of (density_call bytes list fractions temperature target (empty_at x)) ≡ 13) × (value_of (density_call bytes list fractions temperature target (empty_at x)) ≡ 0)
  -- "empty file: 1 at 0"
  pub no_file :
      (list : List ℕ) (fractions : List Float) (temperature rho : Float) →
      (number_of (properties_of [] list fractions temperature rho) ≡ 1) × (value_of (properties_of [] list fractions temperature rho) ≡ 0)

bracket_case :
    (bytes list : List ℕ) (fractions : List Float) (temperature target x : Float) → Prepared bytes list fractions →
    (number_of (density_call bytes list fractions temperature target (empty_at x)) ≡ 13) × (value_of (density_call bytes list fractions temperature target (empty_at x)) ≡ 0)
bracket_case bytes list fractions temperature target x n =
    let p = accepted (mixed_of bytes list fractions) n in
    let e = density_answer bytes list fractions normal_range temperature p.0 p.1 target (empty_at x) in
    let c = case_13 (tables_of bytes) (p.0).model normal_range temperature target x in
    (ap number_of e ∙ c.0, ap value_of e ∙ c.1)

file_case :
    (list : List ℕ) (fractions : List Float) (temperature rho : Float) →
    (number_of (properties_of [] list fractions temperature rho) ≡ 1) × (value_of (properties_of [] list fractions temperature rho) ≡ 0)
file_case list fractions temperature rho =
    let r = refused (answer_of []) refl empty_file_number in
    let e = properties_rows [] list fractions r.0 (file_rows [] list fractions r.0 r.1) normal_range temperature rho in
    (ap number_of e ∙ sym (ap number_of r.1) ∙ empty_file_number, ap value_of e ∙ sym (ap File.value_of r.1) ∙ empty_file_value)
  where
    refused : (x : Result ℕ Refusal) → answer_of [] ≡ x → File.number_of (answer_of []) ≡ 1 → (r : Refusal) × (answer_of [] ≡ Err r)
    refused (Ok n) q e = absurd (unlike (sym (ap File.number_of q) ∙ e))
      where
        unlike : ◌≡◌ {A = ℕ} 0 1 → ⊥
        unlike z = omega arith
    refused (Err r) q e = (r, q)

pub cases : Cases
cases = record {
  exp_0 = exp_zero;
  exp_minus_0 = exp_minus_zero;
  ln_1 = ln_one;
  sqrt_4 = sqrt_four;
  density_8000 = pure_density;
  temperature_200 = pure_temperature;
  own_gradient = pure_gradient;
  halves = halves_density;
  one_term = term_case;
  t_200 = passes_200;
  t_below_200 = below_200;
  density_minus_1 = density_first;
  no_bracket = bracket_case;
  no_file = file_case;
}
