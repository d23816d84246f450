-- Request 03, said of the public calls: the ends of the two ranges, and what the extended one shares with the normal one. Every other promise is stated of any range: at `normal_range` it is about the calls of
-- document 01 (`properties_of` and its kin), at `extended_range` about those of request 03. Assumes nothing.
use mathlib.Core.Path.{◌≡◌, ap, ◌∙◌, subst}
use mathlib.Core.List.{List}
use Prim.Native.Nat.{ℕ, ◌<◌}
use native.Mathlib.Omega.{arith}
use lib.Dec.{T}
use lib.IntN.{pos}
use lib.Ieee.{Float, binary64, of_int, lt, le}
use Rattle.numerics.specs.Double.{+0}
use Rattle.gerg.specs.Helmholtz.{normal_range, extended_range}
use Rattle.gerg.specs.declared.GergState.{GergState}
use Rattle.gerg.proofs.Laws.Ranges.{normal_inside}
use Rattle.gerg.proofs.Laws.Ranges as laws
use Rattle.gerg_search.specs.States.{Doubles}
use Rattle.gerg_search.specs.declared.Options.{Options}
use Rattle.gerg_density.specs.declared.DensityResult.{DensityResult}
use Rattle.gerg_refusals.specs.Answer.{number_of}
use Rattle.gerg_calls.specs.Calls.{properties_of, properties_in, fugacity_answer, fugacity_in, fugacity_written, fugacity_written_in, density_call, density_in, density_call_trials, density_trials_in}
use Rattle.gerg_calls.proofs.Laws.Inside as inside
use Rattle.gerg_api.specs.Promised.{35_MPa, 70_MPa}
use Rattle.gerg_api.proofs.Promises.Searches as searches
use Rattle.std.specs.Prelude.{Ok}

-- an answer whose number is 0 is refused by none of rows 8, 11 and 14
accepted_not : {k : ℕ} (n : ℕ) → k ≡ 0 → 0 < n → k ≡ n → ⊥
accepted_not n a h e = omega arith

-- the two ranges, in K and Pa
pub normal_ends : (normal_range.temperature_low ≡ of_int binary64 (pos 200)) × (normal_range.temperature_high ≡ of_int binary64 (pos 450)) × (normal_range.pressure_high ≡ 35_MPa)
normal_ends = laws.normal_ends

pub extended_ends : (extended_range.temperature_low ≡ of_int binary64 (pos 60)) × (extended_range.temperature_high ≡ of_int binary64 (pos 700)) × (extended_range.pressure_high ≡ 70_MPa)
extended_ends = laws.extended_ends

module _ (bytes list : List ℕ) (fractions : List Float) where
  module _ (temperature rho : Float) where
    -- rows 8 and 11 aside, the extended call answers what the normal one does, refusals too
    pub properties_extended :
        (number_of (properties_of bytes list fractions temperature rho) ≡ 8 → ⊥) → (number_of (properties_of bytes list fractions temperature rho) ≡ 11 → ⊥) →
        properties_in bytes list fractions extended_range temperature rho ≡ properties_of bytes list fractions temperature rho
    properties_extended = inside.properties_inside normal_range extended_range normal_inside bytes list fractions temperature rho

    -- "where a state is accepted in the normal range the extended call gives the same bits"
    pub properties_same_bits :
        (s : GergState) → properties_of bytes list fractions temperature rho ≡ Ok s → properties_in bytes list fractions extended_range temperature rho ≡ Ok s
    properties_same_bits s e =
        let z = ap number_of e in
        properties_extended (accepted_not 8 z (omega arith)) (accepted_not 11 z (omega arith)) ∙ e

    module _ (out : List Float) where
      pub fugacity_extended :
          (number_of (fugacity_answer bytes list fractions temperature rho out) ≡ 8 → ⊥) → (number_of (fugacity_answer bytes list fractions temperature rho out) ≡ 11 → ⊥) →
          (fugacity_in bytes list fractions extended_range temperature rho out ≡ fugacity_answer bytes list fractions temperature rho out)
          × (fugacity_written_in bytes list fractions extended_range temperature rho out ≡ fugacity_written bytes list fractions temperature rho out)
      fugacity_extended n8 n11 = (
        inside.fugacity_inside normal_range extended_range normal_inside bytes list fractions temperature rho out n8 n11,
        inside.fugacity_memory_inside normal_range extended_range normal_inside bytes list fractions temperature rho out n8 n11,
      )

      -- the coefficients stand in the lent memory
      pub fugacity_same_bits :
          (s : GergState) → fugacity_answer bytes list fractions temperature rho out ≡ Ok s →
          (fugacity_in bytes list fractions extended_range temperature rho out ≡ Ok s)
          × (fugacity_written_in bytes list fractions extended_range temperature rho out ≡ fugacity_written bytes list fractions temperature rho out)
      fugacity_same_bits s e =
          let z = ap number_of e in
          let p = fugacity_extended (accepted_not 8 z (omega arith)) (accepted_not 11 z (omega arith)) in
          (p.0 ∙ e, p.1)

  module _ (temperature target : Float) (o : Options) (doubles : Doubles o) where
    -- rows 8, 11 and 14 aside, the extended search makes the normal one's trials and answers what it does, refusals too
    pub density_extended :
        (number_of (density_call bytes list fractions temperature target o) ≡ 8 → ⊥) → (number_of (density_call bytes list fractions temperature target o) ≡ 11 → ⊥) →
        (number_of (density_call bytes list fractions temperature target o) ≡ 14 → ⊥) →
        (density_in bytes list fractions extended_range temperature target o ≡ density_call bytes list fractions temperature target o)
        × (density_trials_in bytes list fractions extended_range temperature target o ≡ density_call_trials bytes list fractions temperature target o)
    density_extended n8 n11 n14 = (
      inside.density_inside normal_range extended_range normal_inside bytes list fractions temperature target o doubles n8 n14 n11,
      inside.trials_inside normal_range extended_range normal_inside bytes list fractions temperature target o doubles n8 n14,
    )

    pub density_same_bits :
        (r : DensityResult) → density_call bytes list fractions temperature target o ≡ Ok r → density_in bytes list fractions extended_range temperature target o ≡ Ok r
    density_same_bits r e =
        let z = ap number_of e in
        (density_extended (accepted_not 8 z (omega arith)) (accepted_not 11 z (omega arith)) (accepted_not 14 z (omega arith))).0 ∙ e

    -- "its state's pressure is in (0, 35 MPa]"
    pub accepted_35_MPa : (r : DensityResult) → density_call bytes list fractions temperature target o ≡ Ok r → T (lt +0 r.state.pressure_pa) × T (le r.state.pressure_pa 35_MPa)
    accepted_35_MPa r e =
        let a = searches.accepted bytes list fractions normal_range temperature target o doubles r e in
        (a.pressure_above, subst (λ (x : Float). T (le r.state.pressure_pa x)) normal_ends.2 a.pressure_at_most)

    -- "with 70 MPa as its pressure end"
    pub accepted_70_MPa : (r : DensityResult) → density_in bytes list fractions extended_range temperature target o ≡ Ok r → T (lt +0 r.state.pressure_pa) × T (le r.state.pressure_pa 70_MPa)
    accepted_70_MPa r e =
        let a = searches.accepted bytes list fractions extended_range temperature target o doubles r e in
        (a.pressure_above, subst (λ (x : Float). T (le r.state.pressure_pa x)) extended_ends.2 a.pressure_at_most)
