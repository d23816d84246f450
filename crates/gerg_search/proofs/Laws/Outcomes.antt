-- What every density search keeps, whatever the equation: for any fair verdicts of the trials, any bracket, limit, tolerance, target and pressure end. Assumes nothing.
use mathlib.Core.Path.{◌≡◌, refl, sym, ap, ◌∙◌, subst}
use mathlib.Core.Bool.{Bool, true, false, ◌||◌}
use mathlib.Core.List.{List, [], Memᴰ}
use Prim.Native.Nat.{ℕ, ◌≤◌, ◌<◌, zero-le}
use native.Mathlib.Nat.{le_trans}
use native.Mathlib.Omega.{arith}
use lib.Dec.{T, lit≤}
use lib.Ieee.{Float, le}
use lib.ListN.{length}
use Rattle.numerics.specs.Double.{pick}
use Rattle.numerics.specs.Tests.{or_false}
use Rattle.gerg_search.specs.Checks.{options_refused, target_refused}
use Rattle.gerg_search.specs.Point.{within_of}
use Rattle.gerg_refusals.specs.Refusal.{number_of}
use Rattle.gerg_search.specs.Stop.{refusal_of}
use Rattle.gerg_search.specs.declared.Found.{Found}
use Rattle.gerg_search.specs.Run.{searched, last_of, answer_of, reported, outcome_of, trials_of}
use Rattle.gerg_search.proofs.Laws.Verdicts.{Fair, Full, Neighbours}
use Rattle.gerg_search.specs.States.{Doubles}
use Rattle.gerg_search.specs.States.{NoneBetween, state_after, left_by}
use Rattle.interval.specs.declared.Interval.{Interval}
use Rattle.gerg_search.specs.declared.Options.{Options}
use Rattle.gerg_search.specs.Sample.{Sample}
use Rattle.gerg_search.specs.declared.Stage.TheVariants.{Interior}
use Rattle.gerg_search.specs.declared.Step.{Step}
use Rattle.gerg_search.specs.declared.Step.TheVariants.{Try, Accepted, Refused}
use Rattle.numerics.specs.Spacing.{count→lt}
use Rattle.gerg_search.proofs.Laws.Neighbours.{neighbours}
use Rattle.gerg_search.proofs.Laws.Start.{Begun, begun, over_zero}
use Rattle.gerg_search.proofs.Laws.Ended.{never_tries, step_trial}
use Rattle.gerg_search.proofs.Laws.Whole.{Done, whole, stopped_low}
use Rattle.gerg_search.proofs.Laws.Standing as standing
use Rattle.std.specs.Prelude.{Ok, Err}
use Rattle.gerg_search.specs.declared.Stop.{Stop}
use Rattle.gerg_refusals.specs.declared.Refusal.{Refusal}
use Rattle.gerg_refusals.specs.declared.Refusal.TheVariants as refusal
use Rattle.gerg_search.specs.declared.Stop.TheVariants as stop

-- ---- what an outcome says of the answer that it reports
report_found : (a : Step) (n : ℕ) (b : Interval) (f : Found) → reported a n b ≡ Ok f → (a ≡ Accepted f.density) × (f.trials ≡ n)
unfolding reported
report_found (Try y) n b f e = cc
report_found (Accepted y) n b f e = let same : record { density = y; trials = n; bracket = b } ≡ f = cc in (ap (λ (z : Found). Accepted z.density) same, sym (ap (λ (z : Found). z.trials) same))
report_found (Refused c) n b f e = cc

report_failed : (a : Step) (n : ℕ) (b : Interval) (r : Refusal) → ((x : Float) → a ≡ Try x → ⊥) → reported a n b ≡ Err r → (c : Stop) × (a ≡ Refused c) × (refusal_of c n ≡ r)
unfolding reported
report_failed (Try y) n b r h e = absurd (h y refl)
report_failed (Accepted y) n b r h e = cc
report_failed (Refused c) n b r h e = (c, refl, cc)

-- past rows 13 and 14 a refusal at the low end is the search's
pub low_refused : (high target : Float) (o : Options) (v : Float → Sample) (r : Refusal) → options_refused o ≡ false → target_refused high target ≡ false → v o.bracket.lo ≡ Err r →
    outcome_of high target o v ≡ Err r
unfolding outcome_of reported
low_refused high target o v r e f q = rw (e, f, stopped_low o v r q)

-- ---- the search behind an outcome that is neither 13 nor 14
pub record Searched (high target : Float) (o : Options) (v : Float → Sample) : Type 0 where
  pub outcome : outcome_of high target o v ≡ reported (answer_of o v) (length (searched o v)) (last_of o v).bracket
  pub passed : (options_refused o || target_refused high target) ≡ false
  pub list : trials_of high target o v ≡ searched o v
  pub begins : Begun o
  pub fairly : Fair v
  pub reachable : target_refused high target ≡ false
  pub done : Done o v (searched o v) (last_of o v)

module _ (high target : Float) (o : Options) (v : Float → Sample) (doubles : Doubles o) (fair : target_refused high target ≡ false → Fair v) where
  behind : (outcome_of high target o v ≡ Err refusal.Options → ⊥) → (outcome_of high target o v ≡ Err refusal.Target → ⊥) → Searched high target o v
  unfolding outcome_of trials_of
  behind n13 n14 = go (options_refused o) (target_refused high target) refl refl
    where
      go : (p q : Bool) → options_refused o ≡ p → target_refused high target ≡ q → Searched high target o v
      go true q e f = absurd (n13 (rw e))
      go false true e f = absurd (n14 (rw (e, f)))
      go false false e f = record { outcome = rw (e, f); passed = rw (e, f); list = rw (e, f); begins = begun o doubles e; fairly = fair f; reachable = f; done = whole o v (begun o doubles e) (fair f) }

  -- "However the search ends the list has at most 600 densities"
  pub at_most_600 : length (trials_of high target o v) ≤ 600
  unfolding trials_of
  at_most_600 = go (options_refused o) (target_refused high target) refl refl
    where
      go : (p q : Bool) → options_refused o ≡ p → target_refused high target ≡ q → length (pick (options_refused o || target_refused high target) [] (searched o v)) ≤ 600
      go true q e f = rw e zero-le
      go false true e f = rw (e, f) zero-le
      go false false e f = rw (e, f) (le_trans (whole o v (begun o doubles e) (fair f)).few (lit≤ tt))

  pub failed : (r : Refusal) → outcome_of high target o v ≡ Err r → (r ≡ refusal.Options → ⊥) → (r ≡ refusal.Target → ⊥) →
      Searched high target o v × ((c : Stop) × (answer_of o v ≡ Refused c) × (refusal_of c (length (trials_of high target o v)) ≡ r))
  failed r e n13 n14 =
      let s = behind (λ h. n13 (cc)) (λ h. n14 (cc)) in
      let w = report_failed (answer_of o v) (length (searched o v)) (last_of o v).bracket r (never_tries o v) (sym s.outcome ∙ e) in
      (s, (w.0, w.1, ap (λ (l : List Float). refusal_of w.0 (length l)) s.list ∙ w.2))

  reached : (f : Found) → outcome_of high target o v ≡ Ok f → Searched high target o v × (answer_of o v ≡ Accepted f.density) × (f.trials ≡ length (trials_of high target o v))
  reached f e =
      let s = behind (λ h. cc) (λ h. cc) in
      let r = report_found (answer_of o v) (length (searched o v)) (last_of o v).bracket f (sym s.outcome ∙ e) in
      (s, r.0, r.1 ∙ ap length (sym s.list))

  -- a fair trial is not to blame for rows 16 and later
  fair_stop : Fair v → (r : Refusal) → answer_of o v ≡ Refused (stop.Trial r) → number_of r < 16
  unfolding answer_of
  fair_stop w r a = w.before (last_of o v).density r (step_trial o (last_of o v) (v (last_of o v).density) r a)

  collapsed_stop : Fair v → (c : Stop) (n k : ℕ) → answer_of o v ≡ Refused c → refusal_of c n ≡ refusal.Collapsed k → (c ≡ stop.Collapsed) × (k ≡ n)
  collapsed_stop w (stop.Trial r) n k a e = let f = fair_stop w r a in let q : number_of r ≡ 18 = ap number_of e in absurd (omega arith)
  collapsed_stop w stop.NotBracketed n k a e = cc
  collapsed_stop w stop.Collapsed n k a e = (refl, cc)
  collapsed_stop w stop.LimitReached n k a e = cc

  limit_stop : Fair v → (c : Stop) (n k : ℕ) → answer_of o v ≡ Refused c → refusal_of c n ≡ refusal.LimitReached k → (c ≡ stop.LimitReached) × (k ≡ n)
  limit_stop w (stop.Trial r) n k a e = let f = fair_stop w r a in let q : number_of r ≡ 19 = ap number_of e in absurd (omega arith)
  limit_stop w stop.NotBracketed n k a e = cc
  limit_stop w stop.Collapsed n k a e = cc
  limit_stop w stop.LimitReached n k a e = (refl, cc)

  failed_18 : (k : ℕ) → outcome_of high target o v ≡ Err (refusal.Collapsed k) → Searched high target o v × (answer_of o v ≡ Refused stop.Collapsed) × (k ≡ length (trials_of high target o v))
  failed_18 k e =
      let f = failed (refusal.Collapsed k) e (λ q. cc) (λ q. cc) in
      let w = collapsed_stop f.0.fairly f.1.0 (length (trials_of high target o v)) k f.1.1 f.1.2 in
      (f.0, f.1.1 ∙ ap Refused w.0, w.1)

  failed_19 : (k : ℕ) → outcome_of high target o v ≡ Err (refusal.LimitReached k) → Searched high target o v × (answer_of o v ≡ Refused stop.LimitReached) × (k ≡ length (trials_of high target o v))
  failed_19 k e =
      let f = failed (refusal.LimitReached k) e (λ q. cc) (λ q. cc) in
      let w = limit_stop f.0.fairly f.1.0 (length (trials_of high target o v)) k f.1.1 f.1.2 in
      (f.0, f.1.1 ∙ ap Refused w.0, w.1)

  -- "any count that is reported is the list's length"
  pub found_count : (f : Found) → outcome_of high target o v ≡ Ok f → f.trials ≡ length (trials_of high target o v)
  found_count f e = (reached f e).2

  pub collapsed_count : (k : ℕ) → outcome_of high target o v ≡ Err (refusal.Collapsed k) → k ≡ length (trials_of high target o v)
  collapsed_count k e = (failed_18 k e).2

  pub limit_count : (k : ℕ) → outcome_of high target o v ≡ Err (refusal.LimitReached k) → k ≡ length (trials_of high target o v)
  limit_count k e = (failed_19 k e).2

  -- "19 only with as many trials as the limit and a double still between the ends"
  pub limit_reached : (k : ℕ) → outcome_of high target o v ≡ Err (refusal.LimitReached k) → Full o v (last_of o v) (trials_of high target o v)
  unfolding answer_of
  limit_reached k e =
      let f = failed_19 k e in
      subst (λ (l : List Float). Full o v (last_of o v) l) (sym f.0.list) (f.0.done.known.limited f.1)

  -- "Under a limit of 600 or more the answer is never 19"
  pub never_19 : 600 ≤ o.limit → (k : ℕ) → outcome_of high target o v ≡ Err (refusal.LimitReached k) → ⊥
  unfolding answer_of
  never_19 h k e =
      let f = failed_19 k e in
      clash (length (searched o v)) o.limit (f.0.done.known.limited f.1).trials f.0.done.few h
    where
      clash : (n m : ℕ) → n ≡ m → n ≤ 599 → 600 ≤ m → ⊥
      clash n m e a b = omega arith

  -- "An accepted density lies in the given bracket, ends allowed"
  pub in_bracket : (f : Found) → outcome_of high target o v ≡ Ok f → T (le o.bracket.lo f.density) × T (le f.density o.bracket.hi)
  unfolding answer_of
  in_bracket f e = let r = reached f e in r.0.done.known.accepted f.density r.1

  -- "18 only where two neighbouring doubles were both tried in that search, neither within the tolerance, .. one below the target and .. the other above it"
  pub collapsed : (k : ℕ) → outcome_of high target o v ≡ Err (refusal.Collapsed k) → Neighbours o v (trials_of high target o v)
  unfolding answer_of
  collapsed k e =
      let f = failed_18 k e in
      let c = f.0.done.known.collapses f.1 in
      subst (λ (l : List Float). Neighbours o v l) (sym f.0.list) (record {
        low = c.bracket.lo;
        high = c.bracket.hi;
        low_double = c.ranged.low.held;
        high_double = c.ranged.high.held;
        order = count→lt c.bracket.lo c.bracket.hi c.ranged.low c.ranged.high c.ranged.rises;
        none = neighbours c.bracket c.at c.f c.derivative c.ranged c.collapsed;
        low_seen = c.low;
        high_seen = c.high;
        below = c.below;
        above = c.above;
        over = over_zero o.tolerance c.above.f f.0.begins.tolerance (f.0.fairly.number c.bracket.hi c.above.f c.above.derivative c.above.is) c.above.sign c.above.outside;
      })

  -- a search that ends past row 16 worked out the low end
  pub low_answered : (r : Refusal) → 16 ≤ number_of r → outcome_of high target o v ≡ Err r → (f : Float) × (d : Float) × (v o.bracket.lo ≡ Ok (f, d))
  low_answered r h e =
      let w = failed r e (λ q. later refusal.Options q (omega arith)) (λ q. later refusal.Target q (omega arith)) in
      go w.0.fairly w.1.0 w.1.1 w.1.2 (v o.bracket.lo) refl
    where
      later : (q : Refusal) → r ≡ q → number_of q < 16 → ⊥
      later q p k = let n : number_of r ≡ number_of q = ap number_of p in omega arith

      go : Fair v → (c : Stop) → answer_of o v ≡ Refused c → refusal_of c (length (trials_of high target o v)) ≡ r → (y : Sample) → v o.bracket.lo ≡ y → (f : Float) × (d : Float) × (v o.bracket.lo ≡ Ok (f, d))
      go w c a z (Ok (f, d)) q = (f, d, q)
      go w c a z (Err n) q =
          let l = w.before o.bracket.lo n q in
          let s = stopped_low o v n q in
          let same : c ≡ stop.Trial n = cc in
          let m : n ≡ r = ap (λ (b : Stop). refusal_of b (length (trials_of high target o v))) (sym same) ∙ z in
          absurd (later n (sym m) l)

  -- an interior state's density is in the list
  pub listed : (n : ℕ) → (options_refused o || target_refused high target) ≡ false → (state_after o v n).stage ≡ Interior → Memᴰ (state_after o v n).density (trials_of high target o v)
  unfolding trials_of
  listed n e i =
      let p = or_false (options_refused o) (target_refused high target) e in
      rw e (standing.listed o v (begun o doubles p.0) (fair p.1) n i)

  -- "where no double is then left between the ends, the search is collapsed"
  pub exhausted : (n : ℕ) (f d : Float) → (options_refused o || target_refused high target) ≡ false → (state_after o v n).stage ≡ Interior → v (state_after o v n).density ≡ Ok (f, d) → within_of o.tolerance f ≡ false
      → NoneBetween (left_by (state_after o v n) f).lo (left_by (state_after o v n) f).hi → outcome_of high target o v ≡ Err (refusal.Collapsed (length (searched o v)))
  unfolding outcome_of reported
  exhausted n f d e i q w none =
      let p = or_false (options_refused o) (target_refused high target) e in
      let a = standing.exhausts o v (begun o doubles p.0) (fair p.1) n f d i q w none in
      rw (p.0, p.1, a)
