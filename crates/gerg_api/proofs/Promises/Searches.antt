-- Demand 3, said of the public calls. Assumes nothing.
use mathlib.Core.Path.{◌≡◌, refl, sym, ap, ◌∙◌, subst}
use mathlib.Core.List.{List}
use Prim.Native.Nat.{ℕ, ◌≤◌, ◌<◌, zero-le}
use native.Mathlib.Omega.{arith}
use lib.Dec.{T}
use lib.Ieee.{Float, binary64, fits, lt, le}
use lib.ListN.{length}
use Rattle.gerg_tables.specs.declared.Tables.{Tables}
use Rattle.gerg_coefficients.specs.Answer.{tables_of}
use Rattle.gerg.specs.Helmholtz.{normal_range}
use Rattle.gerg.specs.declared.Range.{Range}
use Rattle.gerg.specs.Evaluate.{evaluate_of}
use Rattle.gerg_search.specs.States.{Doubles}
use Rattle.gerg_density.specs.Density.{density_trials}
use Rattle.gerg_density.specs.Promised.{Collapsed, Limited}
use Rattle.gerg_density.specs.Arrived.{Arrived}
use Rattle.gerg_density.specs.declared.DensityResult.{DensityResult}
use Rattle.gerg_search.specs.declared.Options.{Options}
use Rattle.gerg_density.proofs.Promises as search
use Rattle.gerg_flash.proofs.Promises as scan
use Rattle.gerg_ph.proofs.Promises as halving
use Rattle.gerg_refusals.specs.Answer.{number_of, value_of}
use Rattle.gerg_refusals.specs.Refusal as of_refusal
use Rattle.gerg_refusals.specs.declared.Refusal.{Refusal}
use Rattle.gerg_prepared.specs.Mixed.{mixed_of}
use Rattle.gerg_prepared.proofs.Laws.{ready}
use Rattle.gerg_prepared.proofs.Numbers.{late}
use Rattle.gerg_prepared.specs.declared.Mixed.{Mixed}
use Rattle.gerg_calls.specs.Calls.{density_in, density_trials_in}
use Rattle.gerg_equilibrium.specs.Equilibrium.{roots_call, roots_written, saturation_call, saturation_call_trials}
use Rattle.gerg_api.specs.Promised.{written_density, AcceptedDensity, CollapsedCall, LimitedCall, ExhaustedCall}
use Rattle.gerg_calls.proofs.Laws.After.{properties_state, density_answer}
use Rattle.gerg_calls.proofs.Laws.Carried.{density_through}
use Rattle.gerg_equilibrium.proofs.Laws.Carried.{roots_through, saturation_through}
use Rattle.std.specs.Prelude.{Result, Ok, Err}

module _ (bytes list : List ℕ) (fractions : List Float) where
  abbrev t : Tables
  t = tables_of bytes

  abbrev mixed : Result Mixed Refusal
  mixed = mixed_of bytes list fractions

  row_late : {A : Type 0} (n : ℕ) → 5 < n → (r : Refusal) → mixed ≡ Err r → of_refusal.number_of r ≡ n → A
  row_late n h r e q = late bytes list fractions n h (ap number_of e ∙ q)

  -- ---- "A density search makes at most 600 interior trials whatever it is given; its counts, 'collapsed' and 'limit reached' mean exactly what document 01 says"
  module _ (range : Range) (temperature target : Float) (o : Options) (doubles : Doubles o) where
    -- "However the search ends the list has at most 600 densities, whatever the tables, mixture, T, target, bracket, tolerance, limit"
    pub at_most_600 : length (density_trials_in bytes list fractions range temperature target o) ≤ 600
    at_most_600 = density_through bytes list fractions (λ a l. length l ≤ 600) range temperature target o (λ r e. zero-le) (λ m e. search.at_most_600 t m.model range temperature target o doubles)

    -- "Any count that is reported is the list's length"
    pub collapsed_count :
        number_of (density_in bytes list fractions range temperature target o) ≡ 18 →
        value_of (density_in bytes list fractions range temperature target o) ≡ length (density_trials_in bytes list fractions range temperature target o)
    collapsed_count =
        density_through bytes list fractions (λ a l. number_of a ≡ 18 → value_of a ≡ length l) range temperature target o
        (λ r e. row_late 18 (omega arith) r e) (λ m e. search.collapsed_count t m.model range temperature target o doubles)

    pub limit_count :
        number_of (density_in bytes list fractions range temperature target o) ≡ 19 →
        value_of (density_in bytes list fractions range temperature target o) ≡ length (density_trials_in bytes list fractions range temperature target o)
    limit_count =
        density_through bytes list fractions (λ a l. number_of a ≡ 19 → value_of a ≡ length l) range temperature target o
        (λ r e. row_late 19 (omega arith) r e) (λ m e. search.limit_count t m.model range temperature target o doubles)

    -- "Under a limit of 600 or more the answer is never 19"
    pub never_19 : 600 ≤ o.limit → number_of (density_in bytes list fractions range temperature target o) ≡ 19 → ⊥
    never_19 h =
        density_through bytes list fractions (λ a l. number_of a ≡ 19 → ⊥) range temperature target o
        (λ r e. row_late 19 (omega arith) r e) (λ m e. search.never_19 t m.model range temperature target o doubles h)

    -- "19 only with as many trials as the limit and a double still between the ends"
    pub limit_reached : number_of (density_in bytes list fractions range temperature target o) ≡ 19 → LimitedCall bytes list fractions range temperature target o
    limit_reached h =
        let p = density_through bytes list fractions
        (λ a l. number_of a ≡ 19 → (m : Mixed) × (mixed ≡ Ok m) × (l ≡ density_trials t m.model range temperature target o) × Limited t m.model range temperature target o) range temperature target o
        (λ r e. row_late 19 (omega arith) r e) (λ m e k. (m, e, refl, search.limit_reached t m.model range temperature target o doubles k)) h in
        record { mixture = p.0; prepared = p.1; list_is = p.2; limited = p.3 }

    -- "18 only where two neighbouring doubles were both tried in that search, neither within the tolerance, the computed pressure of one below the target and of the other above it"
    pub collapsed : number_of (density_in bytes list fractions range temperature target o) ≡ 18 → CollapsedCall bytes list fractions range temperature target o
    collapsed h =
        let p = density_through bytes list fractions
        (λ a l. number_of a ≡ 18 → (m : Mixed) × (mixed ≡ Ok m) × (l ≡ density_trials t m.model range temperature target o) × Collapsed t m.model range temperature target o) range temperature target o
        (λ r e. row_late 18 (omega arith) r e) (λ m e k. (m, e, refl, search.collapsed t m.model range temperature target o doubles k)) h in
        record { mixture = p.0; prepared = p.1; list_is = p.2; collapsed = p.3 }

    -- and 18 where no double is left between the ends after a trial that neither accepts nor refuses
    pub exhausted : ExhaustedCall bytes list fractions range temperature target o → number_of (density_in bytes list fractions range temperature target o) ≡ 18
    exhausted x =
        ap number_of (density_answer bytes list fractions range temperature x.mixture x.prepared target o) ∙ search.exhausted t x.mixture.model range temperature target o doubles x.exhausted

    -- "An accepted density lies in the given bracket, ends allowed; its state's pressure is in (0, 35 MPa] and meets the tolerance as row 17 tests it; its stiffness and cv are positive";
    -- the pressure's upper end as the range has it (`Ranges.accepted_35_MPa`, `accepted_70_MPa`); its count is the list's length
    pub accepted : (r : DensityResult) →
        density_in bytes list fractions range temperature target o ≡ Ok r → AcceptedDensity bytes list fractions range temperature target o r
    accepted r h =
        let p = density_through bytes list fractions
        (λ a l. a ≡ Ok r → (m : Mixed) × (mixed ≡ Ok m) × Arrived t m.model range temperature target o r × (r.trials ≡ length l)) range temperature target o
        (λ q b e. cc) (λ m n e. (m, n, search.accepted t m.model range temperature target o doubles r e, search.accepted_count t m.model range temperature target o doubles r e)) h in
        let m = p.0 in
        let a = p.2 in
        record {
          from = subst (λ (x : Float). T (le o.bracket.lo x)) (sym a.reported) a.from;
          to = subst (λ (x : Float). T (le x o.bracket.hi)) (sym a.reported) a.to;
          state = properties_state bytes list fractions range temperature m p.1 r.state.molar_density ∙ subst (λ (x : Float). evaluate_of t m.model range temperature x ≡ Ok r.state) (sym a.reported) a.state;
          pressure_above = a.pressure_above;
          pressure_at_most = a.pressure_at_most;
          check = a.check;
          stiffness = a.stiffness;
          cv = a.cv;
          trials = p.3;
          first = a.first;
        }

    pub accepted_count : (r : DensityResult) →
        density_in bytes list fractions range temperature target o ≡ Ok r → r.trials ≡ length (density_trials_in bytes list fractions range temperature target o)
    accepted_count r h = (accepted r h).trials

  -- ---- "Saturation makes at most 60"
  module _ (pressure lo hi : Float) (limit : ℕ) where
    pub at_most_60 : T (fits binary64 lo) → T (fits binary64 hi) → length (saturation_call_trials bytes list fractions pressure lo hi limit) ≤ 60
    at_most_60 f g =
        saturation_through bytes list fractions (λ a l. length l ≤ 60) pressure lo hi limit (λ r e. zero-le) (λ m e. halving.at_most_60_trials t m.model m.gradients normal_range pressure lo hi limit f g)

    -- "the value of row 26 is the list's length"
    pub row_26_value :
        number_of (saturation_call bytes list fractions pressure lo hi limit) ≡ 26 →
        value_of (saturation_call bytes list fractions pressure lo hi limit) ≡ length (saturation_call_trials bytes list fractions pressure lo hi limit)
    row_26_value =
        saturation_through bytes list fractions (λ a l. number_of a ≡ 26 → value_of a ≡ length l) pressure lo hi limit
        (λ r e. row_late 26 (omega arith) r e) (λ m e. halving.row_26_value t m.model m.gradients normal_range pressure lo hi limit)

  -- ---- "Root lists rise strictly": of two roots of an accepted call, as they stand in the lent memory, the later has the greater density
  module _ (temperature pressure : Float) (out : List Float) where
    pub root_lists_rise :
        (n : ℕ) → roots_call bytes list fractions temperature pressure out ≡ Ok n → (i j : ℕ) → i < j → j < n →
        T (lt (written_density list (roots_written bytes list fractions temperature pressure out) i) (written_density list (roots_written bytes list fractions temperature pressure out) j))
    root_lists_rise n h i j below last =
        roots_through bytes list fractions (λ a l. a ≡ Ok n → T (lt (written_density list l i) (written_density list l j))) temperature pressure out
        (λ r b e. cc)
        (λ m e k. rw (← (ready bytes list fractions m e).components) (scan.root_lists_rise t m.model m.gradients normal_range temperature pressure out n k i j below last)) h
