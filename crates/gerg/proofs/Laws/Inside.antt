-- A range inside another: whatever rows 6 to 12 answer in it, but for rows 8 and 11, they answer in the other. Assumes nothing.
use mathlib.Core.Path.{◌≡◌, refl, ap, ◌∙◌}
use mathlib.Core.Bool.{Bool, true, false, not, ◌&&◌}
use Prim.Native.Nat.{ℕ}
use native.Mathlib.Omega.{arith}
use lib.Dec.{T}
use lib.Ieee.{Float, le, eq}
use lib.Ieee.Positive.{positive, positive-finite, le_trans_positive, between}
use lib.Ieee.Scale.{finite}
use Rattle.numerics.specs.Double.{bits, +0, pick}
use Rattle.numerics.specs.Tests.{is_true, holds, and_true, both_true, or_false, not-false}
use Rattle.numerics.specs.Zero.{positive_below, not_at_most_zero}
use Rattle.gerg_tables.specs.declared.Tables.{Tables}
use Rattle.gerg_reducing.specs.declared.GergModel.{GergModel}
use Rattle.gerg_reducing.specs.Reduced.{delta_of, tau_of}
use Rattle.gerg_derivatives.specs.declared.derivatives.GergDerivatives.{GergDerivatives}
use Rattle.gerg_derivatives.specs.Derivatives.{zero_derivatives}
use Rattle.gerg_terms.specs.Terms.{components_of}
use Rattle.gerg.specs.declared.Range.{Range}
use Rattle.gerg.specs.Helmholtz.{helmholtz_of, checked_of, within_range}
use Rattle.gerg_refusals.specs.Answer.{number_of}
use Rattle.gerg.specs.Evaluate.{evaluate_of, admitted_answer, admitted_of, unstable, pressure_out, pressure_of, finite_state, state_of}
use Rattle.gerg.proofs.Laws.Answered.{pressure_in}
use Rattle.std.specs.Prelude.{Result, Ok, Err}
use Rattle.gerg_refusals.specs.declared.Refusal.{Refusal}
use Rattle.gerg_refusals.specs.declared.Refusal.TheVariants as refusal

-- x at most y, both finite and above zero
abbrev pub AtMost : Float → Float → Type 0
AtMost x y = T (positive x) × T (positive y) × T (le x y)

-- the ends of a lie within those of b
pub record Inside (a b : Range) : Type 0 where
  pub low : AtMost b.temperature_low a.temperature_low
  pub high : AtMost a.temperature_high b.temperature_high
  pub pressure : AtMost a.pressure_high b.pressure_high

-- a temperature within the ends, as row 8 tests it
abbrev pub between_ends : Range → Float → Bool
between_ends range temperature = le range.temperature_low temperature && le temperature range.temperature_high

module _ (a b : Range) (i : Inside a b) where
  pub ends_inside : (temperature : Float) → between_ends a temperature ≡ true → between_ends b temperature ≡ true
  ends_inside temperature e =
      let ends = and_true (le a.temperature_low temperature) (le temperature a.temperature_high) e in
      let l = holds (le a.temperature_low temperature) ends.0 in
      let h = holds (le temperature a.temperature_high) ends.1 in
      let p = between a.temperature_low temperature a.temperature_high i.low.1 i.high.0 l h in
      both_true (le b.temperature_low temperature) (le temperature b.temperature_high)
      (le_trans_positive b.temperature_low a.temperature_low temperature i.low.0 i.low.1 p i.low.2 l)
      (le_trans_positive temperature a.temperature_high b.temperature_high p i.high.0 i.high.1 h i.high.2)

  -- at a temperature within a's ends row 8 is the same test in both
  within_same : (temperature rho : Float) → between_ends a temperature ≡ true → within_range b temperature rho ≡ within_range a temperature rho
  unfolding within_range
  within_same temperature rho e = rw (ends_inside temperature e, e)

  pub helmholtz_same : (t : Tables) (m : GergModel) (temperature rho : Float) → between_ends a temperature ≡ true → helmholtz_of t m b temperature rho ≡ helmholtz_of t m a temperature rho
  unfolding helmholtz_of
  helmholtz_same t m temperature rho e = rw (within_same temperature rho e)

  within_inside : (temperature rho : Float) → within_range a temperature rho ≡ true → within_range b temperature rho ≡ true
  unfolding within_range
  within_inside temperature rho e =
      let parts = and_true (between_ends a temperature) (le (bits 0x3f50_624d_d2f1_a9fc) rho && le rho (bits 0x40dd_4c00_0000_0000)) e in
      rw (ends_inside temperature parts.0, parts.1)

  pressure_inside : (p : Float) → pressure_out a.pressure_high p ≡ false → pressure_out b.pressure_high p ≡ false
  unfolding pressure_out
  pressure_inside p e =
      let parts = or_false (not (le +0 p && le p a.pressure_high)) (eq p +0) e in
      let ends = and_true (le +0 p) (le p a.pressure_high) (not-false (le +0 p && le p a.pressure_high) parts.0) in
      let known = pressure_in a.pressure_high p e in
      let q = positive_below p a.pressure_high i.pressure.0 known.0 known.1 in
      rw (ends.0, is_true (le p b.pressure_high) (le_trans_positive p a.pressure_high b.pressure_high q i.pressure.0 i.pressure.1 known.1 i.pressure.2), parts.1)

  module _ (t : Tables) (m : GergModel) (temperature rho : Float) where
    -- row 8 aside, rows 6 to 9 answer in b what they answer in a
    pub helmholtz_inside : (number_of (helmholtz_of t m a temperature rho) ≡ 8 → ⊥) → helmholtz_of t m b temperature rho ≡ helmholtz_of t m a temperature rho
    unfolding helmholtz_of
    helmholtz_inside n = go (finite rho) (le rho +0) (within_range a temperature rho) refl n
      where
        c : Result GergDerivatives Refusal
        c = checked_of (components_of t m.fractions temperature rho (delta_of m rho) (tau_of m temperature) zero_derivatives)

        rows : Bool → Bool → Bool → Result GergDerivatives Refusal
        rows x y w = pick (not x) (Err refusal.DensityNotFinite) (pick y (Err refusal.DensityNotPositive) (pick (not w) (Err refusal.OutsideRange) c))

        go : (x y w : Bool) → within_range a temperature rho ≡ w → (number_of (rows x y w) ≡ 8 → ⊥) → rows x y (within_range b temperature rho) ≡ rows x y w
        go false y w e n = refl
        go true true w e n = refl
        go true false false e n = absurd (n refl)
        go true false true e n = rw (within_inside temperature rho e)

    -- rows 8 and 11 aside, rows 6 to 12 answer in b what they answer in a
    pub evaluate_inside :
        (number_of (evaluate_of t m a temperature rho) ≡ 8 → ⊥) → (number_of (evaluate_of t m a temperature rho) ≡ 11 → ⊥) →
        evaluate_of t m b temperature rho ≡ evaluate_of t m a temperature rho
    unfolding evaluate_of admitted_answer admitted_of
    evaluate_inside n8 n11 = ap (admitted_answer temperature rho m.molar_mass b.pressure_high) (helmholtz_inside (λ e. n8 (early (helmholtz_of t m a temperature rho) e))) ∙ go (helmholtz_of t m a temperature rho) n11
      where
        early : (h : Result GergDerivatives Refusal) → number_of h ≡ 8 → number_of (admitted_answer temperature rho m.molar_mass a.pressure_high h) ≡ 8
        early (Ok d) e = absurd (zero_8 e)
          where
            zero_8 : ◌≡◌ {A = ℕ} 0 8 → ⊥
            zero_8 e = omega arith
        early (Err r) e = e

        rows : (d : GergDerivatives) (u p : Bool) → pressure_out a.pressure_high (pressure_of d temperature rho) ≡ p →
            (number_of (pick u (Err refusal.Unstable) (pick p (Err refusal.Pressure) (pick (finite_state (state_of d temperature rho m.molar_mass)) (Ok (state_of d temperature rho m.molar_mass)) (Err refusal.NotFinite)))) ≡ 11 → ⊥) →
            pick u (Err refusal.Unstable) (pick (pressure_out b.pressure_high (pressure_of d temperature rho)) (Err refusal.Pressure) (pick (finite_state (state_of d temperature rho m.molar_mass)) (Ok (state_of d temperature rho m.molar_mass)) (Err refusal.NotFinite)))
            ≡ pick u (Err refusal.Unstable) (pick p (Err refusal.Pressure) (pick (finite_state (state_of d temperature rho m.molar_mass)) (Ok (state_of d temperature rho m.molar_mass)) (Err refusal.NotFinite)))
        rows d true p e n = refl
        rows d false true e n = absurd (n refl)
        rows d false false e n = rw (pressure_inside (pressure_of d temperature rho) e)

        go : (h : Result GergDerivatives Refusal) → (number_of (admitted_answer temperature rho m.molar_mass a.pressure_high h) ≡ 11 → ⊥) →
            admitted_answer temperature rho m.molar_mass b.pressure_high h ≡ admitted_answer temperature rho m.molar_mass a.pressure_high h
        go (Ok d) n = rows d (unstable d temperature) (pressure_out a.pressure_high (pressure_of d temperature rho)) refl n
        go (Err r) n = refl

-- at another temperature a sound density is refused by row 8
pub outside_ends :
    (t : Tables) (m : GergModel) (range : Range) (temperature rho : Float) → T (positive rho) → between_ends range temperature ≡ false → helmholtz_of t m range temperature rho ≡ Err refusal.OutsideRange
unfolding helmholtz_of within_range
outside_ends t m range temperature rho p e = rw (is_true (finite rho) (positive-finite rho p), not_at_most_zero rho p, e)
