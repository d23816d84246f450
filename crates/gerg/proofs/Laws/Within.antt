-- A temperature and a density in the range meet none of rows 6 to 8. Assumes nothing.
use mathlib.Core.Path.{◌≡◌}
use mathlib.Core.Bool.{Bool, true, false}
use Prim.Native.Nat.{ℕ, ◌≤◌}
use native.Mathlib.Omega.{arith}
use lib.Dec.{T}
use lib.Ieee.{Float, le, of_bits}
use lib.Ieee.Positive.{positive, positive-finite, between}
use lib.Ieee.Scale.{finite}
use Rattle.numerics.specs.Double.{bits, pick}
use Rattle.numerics.specs.Tests.{is_true}
use Rattle.numerics.specs.Zero.{not_at_most_zero}
use Rattle.gerg_tables.specs.declared.Tables.{Tables}
use Rattle.gerg_reducing.specs.declared.GergModel.{GergModel}
use Rattle.gerg_reducing.specs.Reduced.{delta_of, tau_of}
use Rattle.gerg_derivatives.specs.declared.derivatives.GergDerivatives.{GergDerivatives}
use Rattle.gerg_derivatives.specs.Derivatives.{zero_derivatives}
use Rattle.gerg_terms.specs.Terms.{components_of}
use Rattle.gerg.specs.declared.GergState.{GergState}
use Rattle.gerg.specs.declared.Range.{Range}
use Rattle.gerg.specs.Helmholtz.{helmholtz_of, checked_of, within_range, all_finite}
use Rattle.gerg_refusals.specs.Answer.{number_of}
use Rattle.gerg.specs.Evaluate.{evaluate_of, admitted_answer, admitted_of, unstable, pressure_out, pressure_of, finite_state, state_of}
use Rattle.std.specs.Prelude.{Result, Ok, Err}
use Rattle.gerg_refusals.specs.declared.Refusal.{Refusal}
use Rattle.gerg_refusals.specs.declared.Refusal.TheVariants as refusal

-- the numbers 6, 7 and 8
abbrev pub Early : ℕ → Type 0
Early n = (6 ≤ n) × (n ≤ 8)

checked_late : (f : Bool) (a : GergDerivatives) → Early (number_of (pick f (Ok a) (Err refusal.Derivative))) → ⊥
checked_late true a h = let k = h.0 in omega arith
checked_late false a h = let k = h.1 in omega arith

admitted_late : (p q f : Bool) (s : GergState) → Early (number_of (pick p (Err refusal.Unstable) (pick q (Err refusal.Pressure) (pick f (Ok s) (Err refusal.NotFinite))))) → ⊥
admitted_late true q f s h = let k = h.1 in omega arith
admitted_late false true f s h = let k = h.1 in omega arith
admitted_late false false true s h = let k = h.0 in omega arith
admitted_late false false false s h = let k = h.1 in omega arith

after_late : (temperature rho mass high : Float) (h : Result GergDerivatives Refusal) → (Early (number_of h) → ⊥) → Early (number_of (admitted_answer temperature rho mass high h)) → ⊥
unfolding admitted_answer admitted_of
after_late temperature rho mass high (Ok a) d =
    admitted_late (unstable a temperature) (pressure_out high (pressure_of a temperature rho)) (finite_state (state_of a temperature rho mass)) (state_of a temperature rho mass)
after_late temperature rho mass high (Err r) d = d

-- a density in 1e-3..30000
density_positive : (rho : Float) → T (le (bits 0x3f50_624d_d2f1_a9fc) rho) → T (le rho (bits 0x40dd_4c00_0000_0000)) → T (positive rho)
unfolding of_bits
density_positive rho h k = between (bits 0x3f50_624d_d2f1_a9fc) rho (bits 0x40dd_4c00_0000_0000) tt tt h k

module _ (range : Range) (temperature rho : Float) (a : T (le range.temperature_low temperature)) (b : T (le temperature range.temperature_high))
    (c : T (le (bits 0x3f50_624d_d2f1_a9fc) rho)) (d : T (le rho (bits 0x40dd_4c00_0000_0000))) where
  pub within_range_lem : within_range range temperature rho ≡ true
  unfolding within_range
  within_range_lem =
      rw (is_true (le range.temperature_low temperature) a, is_true (le temperature range.temperature_high) b, is_true (le (bits 0x3f50_624d_d2f1_a9fc) rho) c, is_true (le rho (bits 0x40dd_4c00_0000_0000)) d)

  pub evaluate_late : (t : Tables) (m : GergModel) → Early (number_of (evaluate_of t m range temperature rho)) → ⊥
  unfolding evaluate_of helmholtz_of checked_of
  evaluate_late t m =
      let p = density_positive rho c d in
      let e = components_of t m.fractions temperature rho (delta_of m rho) (tau_of m temperature) zero_derivatives in
      after_late temperature rho m.molar_mass range.pressure_high (helmholtz_of t m range temperature rho)
      (rw (is_true (finite rho) (positive-finite rho p), not_at_most_zero rho p, within_range_lem) (checked_late (all_finite e) e))
