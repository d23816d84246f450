-- Demand 3 of a density search: for any tables, mixture, range, temperature, target and options of doubles. Assumes nothing.
use mathlib.Core.Path.{◌≡◌, refl, sym, ap, ◌∙◌, subst}
use mathlib.Core.Logic.{inl, inr}
use mathlib.Core.Bool.{Bool, true, false, ◌||◌}
use mathlib.Core.List.{Memᴰ}
use Prim.Native.Nat.{ℕ, ◌^◌, ◌≤◌, ◌<◌}
use native.Mathlib.Nat.{lt_of_le_of_lt}
use borrow.Author.Tests.{eqb-false}
use lib.Dec.{T, eqb, eqb→eq, lit≤}
use lib.Ieee.{Float, le}
use lib.ListN.{length}
use Rattle.numerics.specs.Double.{pick}
use Rattle.gerg_tables.specs.declared.Tables.{Tables}
use Rattle.gerg_reducing.specs.declared.GergModel.{GergModel}
use Rattle.gerg.specs.declared.Range.{Range}
use Rattle.gerg.specs.Evaluate.{evaluate_of}
use Rattle.gerg.proofs.Laws.Answered.{answered}
use Rattle.gerg_search.specs.Checks.{options_refused, target_refused}
use Rattle.gerg_search.specs.Point.{within_of}
use Rattle.gerg_search.specs.States.{Doubles}
use Rattle.gerg_density.specs.Density.{verdict_of, search_of, density_trials, residual_of, beyond_of, checked_of, finished_of, density_of}
use Rattle.gerg_refusals.specs.Answer.{number_of, value_of}
use Rattle.gerg_search.specs.States.{state_after}
use Rattle.gerg_density.specs.Promised.{Tried, Collapsed, Exhausted, Limited}
use Rattle.gerg_density.specs.Arrived.{Arrived}
use Rattle.gerg_search.specs.declared.Found.{Found}
use Rattle.gerg_search.specs.declared.Options.{Options}
use Rattle.gerg_search.specs.Sample.{Outcome}
use Rattle.gerg_density.specs.declared.DensityResult.{DensityResult}
use Rattle.gerg_search.proofs.Laws.Start.{target_positive}
use Rattle.gerg_search.proofs.Laws.Verdicts.{Fair, Seen}
use Rattle.gerg_density.proofs.Laws.Verdict.{fair, Worked, worked}
use Rattle.gerg_density.proofs.Laws.Numbers as numbers
use Rattle.gerg_search.proofs.Laws.Outcomes as any
use Rattle.std.specs.Prelude.{Result, Ok, Err}
use Rattle.gerg.specs.declared.GergState.{GergState}
use Rattle.gerg_refusals.specs.declared.Refusal.{Refusal}
use Rattle.gerg_refusals.specs.declared.Refusal.TheVariants as refusal

module _ (t : Tables) (m : GergModel) (range : Range) (temperature target : Float) (o : Options) (doubles : Doubles o) where
  fairly : target_refused range.pressure_high target ≡ false → Fair (verdict_of t m range temperature target)
  fairly e = fair t m range temperature target (target_positive range.pressure_high target e)

  -- "However the search ends the list has at most 600 densities, whatever the tables, mixture, T, target, bracket, tolerance, limit"
  pub at_most_600 : length (density_trials t m range temperature target o) ≤ 600
  unfolding density_trials
  at_most_600 = any.at_most_600 range.pressure_high target o (verdict_of t m range temperature target) doubles fairly

  -- "Under a limit of 600 or more the answer is never 19"
  pub never_19 : 600 ≤ o.limit → number_of (density_of t m range temperature target o) ≡ 19 → ⊥
  unfolding search_of
  never_19 h e =
      any.never_19 range.pressure_high target o (verdict_of t m range temperature target) doubles fairly h (value_of (density_of t m range temperature target o))
      (numbers.own_refusal t m range temperature target o 19 (lit≤ tt) e)

  -- "Any count that is reported is the list's length": of an accepted density, in rows 18 and 19
  found_count : (f : Found) → search_of t m range temperature target o ≡ Ok f → f.trials ≡ length (density_trials t m range temperature target o)
  unfolding search_of density_trials
  found_count = any.found_count range.pressure_high target o (verdict_of t m range temperature target) doubles fairly

  pub collapsed_count : number_of (density_of t m range temperature target o) ≡ 18 → value_of (density_of t m range temperature target o) ≡ length (density_trials t m range temperature target o)
  unfolding search_of density_trials
  collapsed_count e =
      any.collapsed_count range.pressure_high target o (verdict_of t m range temperature target) doubles fairly (value_of (density_of t m range temperature target o))
      (numbers.own_refusal t m range temperature target o 18 (lit≤ tt) e)

  pub limit_count : number_of (density_of t m range temperature target o) ≡ 19 → value_of (density_of t m range temperature target o) ≡ length (density_trials t m range temperature target o)
  unfolding search_of density_trials
  limit_count e =
      any.limit_count range.pressure_high target o (verdict_of t m range temperature target) doubles fairly (value_of (density_of t m range temperature target o))
      (numbers.own_refusal t m range temperature target o 19 (lit≤ tt) e)

  -- "19 only with as many trials as the limit and a double still between the ends"
  pub limit_reached : number_of (density_of t m range temperature target o) ≡ 19 → Limited t m range temperature target o
  unfolding search_of density_trials
  limit_reached e =
      let v = verdict_of t m range temperature target in
      let k = value_of (density_of t m range temperature target o) in
      let s = numbers.own_refusal t m range temperature target o 19 (lit≤ tt) e in
      let f = any.limit_reached range.pressure_high target o v doubles fairly k s in
      let p = (any.failed range.pressure_high target o v doubles fairly (refusal.LimitReached k) s (λ q. cc) (λ q. cc)).0.passed in
      record {
        trials = f.trials;
        residual = f.f;
        last = record { begun = p; interior = f.interior; derivative = f.derivative; verdict = f.is; outside = f.outside };
        between = f.between;
        double = f.held;
        above = f.over;
        below = f.under;
      }

  -- "18 only where two neighbouring doubles were both tried in that search, neither within the tolerance, the computed pressure of one below the target and of the other above it"
  pub collapsed : number_of (density_of t m range temperature target o) ≡ 18 → Collapsed t m range temperature target o
  unfolding search_of density_trials
  collapsed e =
      let h = range.pressure_high in
      let v = verdict_of t m range temperature target in
      let k = value_of (density_of t m range temperature target o) in
      let s = numbers.own_refusal t m range temperature target o 18 (lit≤ tt) e in
      let n = any.collapsed h target o v doubles fairly k s in
      let q = (any.failed h target o v doubles fairly (refusal.Collapsed k) s (λ q. cc) (λ q. cc)).0 in
      let r = any.low_answered h target o v doubles fairly (refusal.Collapsed k) (lit≤ tt) s in
      let p = target_positive h target q.reachable in
      let b = worked t m range temperature target p n.low n.below.f n.below.derivative n.below.is in
      let a = worked t m range temperature target p n.high n.above.f n.above.derivative n.above.is in
      record {
        low = n.low;
        high = n.high;
        order = n.order;
        neighbours = n.none;
        low_pressure = b.pressure;
        at_low = record { double = n.low_double; tried = tried n.low n.below.f r q.passed b n.low_seen; computed = b.computed; outside = ap (within_of o.tolerance) (sym b.scaled.is) ∙ n.below.outside };
        below = b.scaled.signs.below n.below.sign;
        high_pressure = a.pressure;
        at_high = record { double = n.high_double; tried = tried n.high n.above.f r q.passed a n.high_seen; computed = a.computed; outside = ap (within_of o.tolerance) (sym a.scaled.is) ∙ n.above.outside };
        above = a.scaled.signs.above n.over;
      }
    where
      tried : (x f : Float) → ((g : Float) × (d : Float) × (verdict_of t m range temperature target o.bracket.lo ≡ Ok (g, d))) → (options_refused o || target_refused range.pressure_high target) ≡ false → Worked t m range temperature target x f
          → Seen o (density_trials t m range temperature target o) x → Tried t m range temperature target o x
      tried x f r p w (inl e) = inl (record { begun = p; end = inl e; pressure = w.pressure; computed = w.computed })
      tried x f r p w (inr (inl e)) = inl (record { begun = p; end = inr (e, r); pressure = w.pressure; computed = w.computed })
      tried x f r p w (inr (inr l)) = inr l

  -- "A trial that neither accepts nor refuses takes the place of the end on its side of the target; where no double is then left between the ends, the search is collapsed (row 18), before the limit is looked at"
  pub exhausted : Exhausted t m range temperature target o → number_of (density_of t m range temperature target o) ≡ 18
  unfolding density_of finished_of search_of
  exhausted e =
      let u = e.trial in
      ap (λ (w : Outcome). number_of (finished_of t m range temperature target o w))
      (any.exhausted range.pressure_high target o (verdict_of t m range temperature target) doubles fairly e.steps e.residual u.derivative u.begun u.interior u.verdict u.outside e.none)

  -- and that trial is in the list
  pub listed : (e : Exhausted t m range temperature target o) → Memᴰ (state_after o (verdict_of t m range temperature target) e.steps).density (density_trials t m range temperature target o)
  unfolding density_trials
  listed e = any.listed range.pressure_high target o (verdict_of t m range temperature target) doubles fairly e.steps e.trial.begun e.trial.interior

  in_bracket : (f : Found) → search_of t m range temperature target o ≡ Ok f → T (le o.bracket.lo f.density) × T (le f.density o.bracket.hi)
  unfolding search_of
  in_bracket = any.in_bracket range.pressure_high target o (verdict_of t m range temperature target) doubles fairly

  -- "An accepted density lies in the given bracket, ends allowed; its state's pressure is in (0, 35 MPa] and meets the tolerance as row 17 tests it; its stiffness and cv are positive";
  -- the pressure's upper end as the range has it
  pub accepted : (r : DensityResult) → density_of t m range temperature target o ≡ Ok r → Arrived t m range temperature target o r
  unfolding density_of finished_of checked_of
  accepted r e = go (search_of t m range temperature target o) refl e
    where
      state : (f : Found) (a : Result GergState Refusal) → search_of t m range temperature target o ≡ Ok f → evaluate_of t m range temperature f.density ≡ a → checked_of target o f.trials f.bracket a ≡ Ok r → Arrived t m range temperature target o r
      state f (Err j) s q e = cc
      state f (Ok z) s q e = tested (beyond_of o.tolerance (residual_of target z)) refl e
        where
          d : DensityResult
          d = record { state = z; residual = residual_of target z; trials = f.trials; first = o.bracket; last = f.bracket }

          tested : (c : Bool) → beyond_of o.tolerance (residual_of target z) ≡ c → pick c (Err refusal.PressureCheck) (Ok d) ≡ Ok r → Arrived t m range temperature target o r
          tested true w e = cc
          tested false w e =
              let p = in_bracket f s in
              let a = answered t m range temperature f.density z q in
              let same : d ≡ r = cc in
              subst (λ (d : DensityResult). Arrived t m range temperature target o d) same (record {
                density = f.density;
                from = p.0;
                to = p.1;
                state = q;
                reported = a.density;
                pressure_above = a.pressure_above;
                pressure_at_most = a.pressure_at_most;
                stiffness = a.stiffness;
                cv = a.cv;
                check = w;
                residual = refl;
                trials = found_count f s;
                first = refl;
              })

      go : (w : Outcome) → search_of t m range temperature target o ≡ w → finished_of t m range temperature target o w ≡ Ok r → Arrived t m range temperature target o r
      go (Err j) s e = cc
      go (Ok f) s e = state f (evaluate_of t m range temperature f.density) s refl e

  pub accepted_count : (r : DensityResult) → density_of t m range temperature target o ≡ Ok r → r.trials ≡ length (density_trials t m range temperature target o)
  accepted_count r e = (accepted r e).trials

  -- the rows of a density search end with 19
  pub number_at_most : number_of (density_of t m range temperature target o) ≤ 19
  number_at_most = (numbers.density_numbers t m range temperature target o).most

  -- "The value is 0 unless given": rows 18 and 19 alone have one
  pub no_value : (number_of (density_of t m range temperature target o) ≡ 18 → ⊥) → (number_of (density_of t m range temperature target o) ≡ 19 → ⊥) → value_of (density_of t m range temperature target o) ≡ 0
  no_value = numbers.no_value t m range temperature target o

  pub value_below : value_of (density_of t m range temperature target o) < 2 ^ 32
  value_below = go (eqb n 18) (eqb n 19) (eqb→eq n 18) (eqb→eq n 19) (eqb-false n 18) (eqb-false n 19)
    where
      n : ℕ
      n = number_of (density_of t m range temperature target o)

      few : (k : ℕ) → k ≤ 600 → k < 2 ^ 32
      few k h = lt_of_le_of_lt h (lit≤ tt)

      counted : value_of (density_of t m range temperature target o) ≡ length (density_trials t m range temperature target o) → value_of (density_of t m range temperature target o) < 2 ^ 32
      counted e = few (value_of (density_of t m range temperature target o)) (subst (λ (k : ℕ). k ≤ 600) (sym e) at_most_600)

      go : (p q : Bool) → (T p → n ≡ 18) → (T q → n ≡ 19) → (p ≡ false → n ≡ 18 → ⊥) → (q ≡ false → n ≡ 19 → ⊥) → value_of (density_of t m range temperature target o) < 2 ^ 32
      go true q a b c d = counted (collapsed_count (a tt))
      go false true a b c d = counted (limit_count (b tt))
      go false false a b c d = subst (λ (k : ℕ). k < 2 ^ 32) (sym (no_value (c refl) (d refl))) (lit≤ tt)
