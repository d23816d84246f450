-- Every search ends, whatever its options and verdicts: its last step accepts or refuses. Its refusal is that of its last trial or its own, which is of a row from 6 to 19 and has a value in 18 and 19 alone. Assumes nothing.
use mathlib.Core.Path.{◌≡◌, refl, sym, ap, ◌∙◌, subst}
use mathlib.Core.Bool.{Bool, true, false, not, ◌||◌}
use mathlib.Core.List.{[]}
use mathlib.Core.Logic.{◌⊎◌, inl, inr}
use Prim.Native.Nat.{ℕ, zero, suc, ◌+◌, ◌≤◌, ◌<◌}
use native.Mathlib.Omega.{arith}
use lib.Dec.{T, leb, nleb→lt}
use lib.Ieee.{Float, lt}
use lib.ListN.{length}
use Rattle.numerics.specs.Double.{+0, pick}
use Rattle.gerg_search.specs.Checks.{options_refused, target_refused}
use Rattle.gerg_search.specs.Point.{next_of, collapsed_at, within_of}
use Rattle.interval.specs.Interval.{middle_of}
use Rattle.gerg_refusals.specs.Refusal.{number_of, value_of}
use Rattle.gerg_search.specs.Stop.{refusal_of}
use Rattle.gerg_search.specs.Steps.{begin_of, go_on_of, interior_of, ends_of, stage_of, step_of, moved_by, moved_of}
use Rattle.gerg_search.specs.Run.{on_try, last_from, steps, searched, last_of, answer_of, reported, outcome_of, trials_of}
use Rattle.gerg_search.specs.States.{left_by}
use Rattle.gerg_search.specs.declared.Options.{Options}
use Rattle.gerg_search.specs.Sample.{Sample}
use Rattle.gerg_search.specs.declared.Search.{Search}
use Rattle.gerg_search.specs.declared.Stage.{Stage}
use Rattle.gerg_search.specs.declared.Stage.TheVariants.{Low, High, Interior}
use Rattle.gerg_search.specs.declared.Step.{Step}
use Rattle.gerg_search.specs.declared.Step.TheVariants.{Try, Accepted, Refused}
use Rattle.gerg_search.proofs.Laws.Inner.{interior_try}
use Rattle.std.specs.Prelude.{Ok, Err}
use Rattle.gerg_search.specs.declared.Stop.TheVariants as stop
use Rattle.gerg_search.specs.declared.Stop.{Stop}
use Rattle.gerg_refusals.specs.declared.Refusal.{Refusal}
use Rattle.gerg_refusals.specs.declared.Refusal.TheVariants as refusal

-- n steps are enough from a state on, by its stage and trials
abbrev Enough : ℕ → ℕ → ℕ → Stage → Type 0
Enough limit n trials Low = limit + 2 ≤ n
Enough limit n trials High = limit + 1 ≤ n
Enough limit n trials Interior = limit ≤ n + trials

module _ (o : Options) (v : Float → Sample) where
  abbrev Ended : Search → Type 0
  Ended s = (x : Float) → step_of o s (v s.density) ≡ Try x → ⊥

  -- a step that tries again leaves enough
  goes_on : (n : ℕ) (s : Search) (x : Float) (y : Sample) (g : Stage) → s.stage ≡ g → Enough o.limit (suc n) s.trials g → step_of o s y ≡ Try x → Enough o.limit n (moved_of s y x).trials (moved_of s y x).stage
  unfolding step_of moved_of moved_by
  goes_on n s x (Err k) g i h e = cc
  goes_on n s x (Ok (f, d)) Low i h e = subst (λ (w : Search). Enough o.limit n w.trials w.stage) (sym (ap (moved_by s f x) i)) (omega arith)
  goes_on n s x (Ok (f, d)) High i h e = subst (λ (w : Search). Enough o.limit n w.trials w.stage) (sym (ap (moved_by s f x) i)) (omega arith)
  goes_on n s x (Ok (f, d)) Interior i h e = subst (λ (w : Search). Enough o.limit n w.trials w.stage) (sym (ap (moved_by s f x) i)) (omega arith)

  -- where none is left, the limit is made
  full : (s : Search) (g : Stage) → s.stage ≡ g → Enough o.limit 0 s.trials g → Ended s
  unfolding step_of stage_of
  full s Low i h x e = omega arith
  full s High i h x e = omega arith
  full s Interior i h x e = go (v s.density) e
    where
      clash : (l k : ℕ) → l ≤ 0 + k → k < l → ⊥
      clash l k a b = omega arith

      go : (y : Sample) → step_of o s y ≡ Try x → ⊥
      go (Err n) e = cc
      go (Ok (f, d)) e =
          let g = interior_try o s f d x (sym (ap (stage_of o s f d) i) ∙ e) in
          clash o.limit s.trials h (nleb→lt o.limit s.trials (subst (λ (z : Bool). T (not z)) (sym g.more) tt))

  -- the last state, by the answer of the step before
  pub last_step : (n : ℕ) (s : Search) (a : Step) → step_of o s (v s.density) ≡ a → last_from o v (suc n) s ≡ on_try a (λ x. last_from o v n (moved_of s (v s.density) x)) s
  unfolding last_from
  last_step n s a p = ap (λ (z : Step). on_try z (λ x. last_from o v n (moved_of s (v s.density) x)) s) p

  ends : (n : ℕ) (s : Search) → Enough o.limit n s.trials s.stage → Ended (last_from o v n s)
  ends zero s h = unfold last_from in full s s.stage refl h
  ends (suc n) s h = go (step_of o s (v s.density)) refl (λ x. ends n (moved_of s (v s.density) x))
    where
      go :
          (a : Step) → step_of o s (v s.density) ≡ a →
          ((x : Float) → Enough o.limit n (moved_of s (v s.density) x).trials (moved_of s (v s.density) x).stage → Ended (last_from o v n (moved_of s (v s.density) x))) →
          Ended (last_from o v (suc n) s)
      go (Try x) p r = subst Ended (sym (last_step n s (Try x) p)) (r x (goes_on n s x (v s.density) s.stage refl h p))
      go (Accepted x) p r = subst Ended (sym (last_step n s (Accepted x) p)) (λ y e. cc)
      go (Refused m) p r = subst Ended (sym (last_step n s (Refused m) p)) (λ y e. cc)

  -- "No search ends in a `Try`"
  pub never_tries : (x : Float) → answer_of o v ≡ Try x → ⊥
  unfolding answer_of last_of begin_of
  never_tries = ends (steps o) (begin_of o) (omega arith)

-- the search's own steps blame no trial
ends_own : (i j k : Bool) (lo hi x : Float) (r : Refusal) → pick i (Accepted lo) (pick j (Accepted hi) (pick k (Refused stop.NotBracketed) (Try x))) ≡ Refused (stop.Trial r) → ⊥
ends_own true j k lo hi x r e = cc
ends_own false true k lo hi x r e = cc
ends_own false false true lo hi x r e = cc
ends_own false false false lo hi x r e = cc

interior_own : (i j k : Bool) (rho x : Float) (r : Refusal) → pick i (Accepted rho) (pick j (Refused stop.Collapsed) (pick k (Refused stop.LimitReached) (Try x))) ≡ Refused (stop.Trial r) → ⊥
interior_own true j k rho x r e = cc
interior_own false true k rho x r e = cc
interior_own false false true rho x r e = cc
interior_own false false false rho x r e = cc

pub step_trial : (o : Options) (s : Search) (y : Sample) (r : Refusal) → step_of o s y ≡ Refused (stop.Trial r) → y ≡ Err r
unfolding step_of stage_of ends_of interior_of go_on_of
step_trial o s (Err q) r e = cc
step_trial o s (Ok (f, d)) r e = absurd (go s.stage e)
  where
    go : (g : Stage) → stage_of o s f d g ≡ Refused (stop.Trial r) → ⊥
    go Low e = cc
    go High e = ends_own (within_of o.tolerance s.low_residual) (within_of o.tolerance f) (lt +0 s.low_residual || lt f +0) o.bracket.lo o.bracket.hi (middle_of o.bracket) r e
    go Interior e =
        let next = next_of (left_by s f) s.density f d in
        interior_own (within_of o.tolerance f) (collapsed_at (left_by s f) next) (leb o.limit s.trials) s.density next r e

-- ---- whose a search's refusal is, whatever its trials answer: that of the trial at its last density
pub record OfTrial (high target : Float) (o : Options) (v : Float → Sample) (r : Refusal) : Type 0 where
  pub passed : (options_refused o || target_refused high target) ≡ false
  pub refuses : v (last_of o v).density ≡ Err r

-- or its own, of which rows 18 and 19 give the number of the trials
abbrev pub OfSearch : ℕ → Refusal → Type 0
OfSearch trials r = (r ≡ refusal.Options) ⊎ (r ≡ refusal.Target) ⊎ (r ≡ refusal.NotBracketed) ⊎ (r ≡ refusal.Collapsed trials) ⊎ (r ≡ refusal.LimitReached trials)

pub failed_by : (high target : Float) (o : Options) (v : Float → Sample) (r : Refusal) → outcome_of high target o v ≡ Err r → OfTrial high target o v r ⊎ OfSearch (length (trials_of high target o v)) r
unfolding outcome_of trials_of answer_of reported
failed_by high target o v r e = go (options_refused o) (target_refused high target) refl refl e
  where
    s : Search
    s = last_of o v

    trials : ℕ
    trials = length (searched o v)

    stopped : (c : Stop) → (options_refused o || target_refused high target) ≡ false → step_of o s (v s.density) ≡ Refused c → refusal_of c trials ≡ r → OfTrial high target o v r ⊎ OfSearch trials r
    stopped (stop.Trial q) p a e = inl (record { passed = p; refuses = step_trial o s (v s.density) q a ∙ ap Err e })
    stopped stop.NotBracketed p a e = inr (inr (inr (inl (sym e))))
    stopped stop.Collapsed p a e = inr (inr (inr (inr (inl (sym e)))))
    stopped stop.LimitReached p a e = inr (inr (inr (inr (inr (sym e)))))

    answered : (a : Step) → (options_refused o || target_refused high target) ≡ false → step_of o s (v s.density) ≡ a → reported a trials s.bracket ≡ Err r → OfTrial high target o v r ⊎ OfSearch trials r
    answered (Try x) p a e = absurd (never_tries o v x a)
    answered (Accepted x) p a e = cc
    answered (Refused c) p a e = stopped c p a (cc)

    go :
        (p q : Bool) → options_refused o ≡ p → target_refused high target ≡ q →
        pick p (Err refusal.Options) (pick q (Err refusal.Target) (reported (step_of o s (v s.density)) trials s.bracket)) ≡ Err r →
        OfTrial high target o v r ⊎ OfSearch (length (pick (p || q) [] (searched o v))) r
    go true q i j e = inr (inl (cc))
    go false true i j e = inr (inr (inl (cc)))
    go false false i j e = answered (step_of o s (v s.density)) (rw (i, j)) refl e

-- ---- what holds of a search's refusals: of those that are its own, and of its trials'
pub record Own (P : Refusal → Type 0) : Type 0 where
  pub options : P refusal.Options
  pub target : P refusal.Target
  pub not_bracketed : P refusal.NotBracketed
  pub collapsed : (k : ℕ) → P (refusal.Collapsed k)
  pub limit_reached : (k : ℕ) → P (refusal.LimitReached k)

own_holds : (P : Refusal → Type 0) → Own P → (k : ℕ) (r : Refusal) → OfSearch k r → P r
own_holds P own k r (inl e) = subst P (sym e) own.options
own_holds P own k r (inr (inl e)) = subst P (sym e) own.target
own_holds P own k r (inr (inr (inl e))) = subst P (sym e) own.not_bracketed
own_holds P own k r (inr (inr (inr (inl e)))) = subst P (sym e) (own.collapsed k)
own_holds P own k r (inr (inr (inr (inr e)))) = subst P (sym e) (own.limit_reached k)

pub refusal_holds : (P : Refusal → Type 0) → Own P → (high target : Float) (o : Options) (v : Float → Sample) → ((x : Float) (r : Refusal) → v x ≡ Err r → P r) → (r : Refusal) → outcome_of high target o v ≡ Err r → P r
refusal_holds P own high target o v trials r e = elim (failed_by high target o v r e) [
  | inl t ↦ trials (last_of o v).density r t.refuses
  | inr q ↦ own_holds P own (length (trials_of high target o v)) r q
]

-- ---- the numbers of refusals: those of the trials, rows 13, 14, 16, 18 and 19
abbrev pub Row : Refusal → Type 0
Row r = (5 < number_of r) × (number_of r ≤ 19)

own_rows : Own Row
own_rows = record {
  options = (omega arith, omega arith);
  target = (omega arith, omega arith);
  not_bracketed = (omega arith, omega arith);
  collapsed = λ k. (omega arith, omega arith);
  limit_reached = λ k. (omega arith, omega arith);
}

-- a search fails by a row of the table, where its trials refuse by one
pub failed_row : (high target : Float) (o : Options) (v : Float → Sample) → ((x : Float) (r : Refusal) → v x ≡ Err r → Row r) → (r : Refusal) → outcome_of high target o v ≡ Err r → Row r
failed_row = refusal_holds Row own_rows

-- ---- "The value is 0 unless given": of the search's own refusals rows 18 and 19 alone have one, the number of the trials
pub failed_value :
    (high target : Float) (o : Options) (v : Float → Sample) (r : Refusal) → outcome_of high target o v ≡ Err r →
    OfTrial high target o v r ⊎ (r ≡ refusal.Collapsed (length (trials_of high target o v))) ⊎ (r ≡ refusal.LimitReached (length (trials_of high target o v))) ⊎ (value_of r ≡ 0)
failed_value high target o v r e = elim (failed_by high target o v r e) [ inl t ↦ inl t | inr q ↦ inr (by_row q) ]
  where
    by_row : {k : ℕ} → OfSearch k r → (r ≡ refusal.Collapsed k) ⊎ (r ≡ refusal.LimitReached k) ⊎ (value_of r ≡ 0)
    by_row (inl e) = inr (inr (ap value_of e))
    by_row (inr (inl e)) = inr (inr (ap value_of e))
    by_row (inr (inr (inl e))) = inr (inr (ap value_of e))
    by_row (inr (inr (inr (inl e)))) = inl e
    by_row (inr (inr (inr (inr e)))) = inr (inl e)

-- so in a search whose trials' refusals have none but in those rows
abbrev pub Plain : Refusal → Type 0
Plain r = (number_of r ≡ 18 → ⊥) → (number_of r ≡ 19 → ⊥) → value_of r ≡ 0

pub failed_plain : (high target : Float) (o : Options) (v : Float → Sample) → ((x : Float) (r : Refusal) → v x ≡ Err r → Plain r) → (r : Refusal) → outcome_of high target o v ≡ Err r → Plain r
failed_plain high target o v trials r e = elim (failed_value high target o v r e) [
  | inl t ↦ trials (last_of o v).density r t.refuses
  | inr (inl e) ↦ λ a b. absurd (a (ap number_of e))
  | inr (inr (inl e)) ↦ λ a b. absurd (b (ap number_of e))
  | inr (inr (inr e)) ↦ λ a b. e
]
