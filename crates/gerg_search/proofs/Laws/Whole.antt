-- A whole search, from its first end on: fewer than 600 trials, and what is known where it ends. Assumes nothing.
use mathlib.Core.Path.{◌≡◌, refl, sym, ap, ◌∙◌, subst}
use mathlib.Core.Logic.{inl, inr}
use mathlib.Core.Bool.{Bool, true, false, ◌||◌}
use mathlib.Core.List.{List, []}
use Prim.Native.Nat.{ℕ, suc, ◌+◌, ◌≤◌, zero-le}
use native.Mathlib.Nat.{le_refl, le_of_lt}
use lib.Dec.{T}
use lib.Ieee.{Float, lt, le}
use lib.ListN.{length}
use Rattle.numerics.specs.Double.{+0}
use Rattle.numerics.specs.Tests.{or_false}
use Rattle.gerg_search.specs.Point.{within_of}
use Rattle.interval.specs.Interval.{middle_of}
use Rattle.gerg_search.specs.Steps.{begin_of, ends_of, stage_of, step_of, moved_by, moved_of}
use Rattle.gerg_search.specs.Run.{on_try, counted, trials_from, last_from, steps, searched, last_of, answer_of}
use Rattle.gerg_search.proofs.Laws.Verdicts.{Fair}
use Rattle.gerg_search.specs.declared.Options.{Options}
use Rattle.gerg_search.specs.Sample.{Sample}
use Rattle.gerg_search.specs.declared.Stage.TheVariants.{High, Interior}
use Rattle.gerg_search.specs.declared.Search.{Search}
use Rattle.gerg_search.specs.declared.Step.{Step}
use Rattle.gerg_search.specs.declared.Step.TheVariants.{Try, Accepted, Refused}
use Rattle.numerics.specs.Spacing.{count, count→le}
use Rattle.numerics.specs.SpacingRounded.{Ranged}
use Rattle.numerics.specs.MiddleLaws.{middle_good, middle_from, middle_to}
use Rattle.gerg_search.proofs.Laws.Inner.{Inner}
use Rattle.gerg_search.proofs.Laws.Bound.{first_bounded}
use Rattle.gerg_search.proofs.Laws.Start.{Begun, below_zero, some_limit}
use Rattle.gerg_search.proofs.Laws.Ended.{last_step}
use Rattle.gerg_search.proofs.Laws.Course.{Known, Ends, ends}
use Rattle.std.specs.Prelude.{Ok, Err}
use Rattle.gerg_search.specs.declared.Stop.{Stop}
use Rattle.gerg_refusals.specs.declared.Refusal.{Refusal}
use Rattle.gerg_search.specs.declared.Stop.TheVariants as stop

-- what is shown of the list and the last state
pub record Done (o : Options) (v : Float → Sample) (l : List Float) (s : Search) : Type 0 where
  pub few : length l ≤ 599
  pub known : Ends o v l s

abbrev From : Options → (Float → Sample) → ℕ → Search → Type 0
From o v n s = Done o v (trials_from o v n s) (last_from o v n s)

-- a state that tries an end adds nothing to the list
abbrev Outer : Search → Type 0
Outer s = (l : List Float) → counted s.stage s.density l ≡ l

module _ (o : Options) (v : Float → Sample) where
  list_step : (n : ℕ) (s : Search) (a : Step) → Outer s → step_of o s (v s.density) ≡ a → trials_from o v (suc n) s ≡ on_try a (λ x. trials_from o v n (moved_of s (v s.density) x)) []
  unfolding trials_from
  list_step n s a e p = e _ ∙ ap (λ (z : Step). on_try z (λ x. trials_from o v n (moved_of s (v s.density) x)) []) p

  pass : (n : ℕ) (s : Search) (x : Float) → Outer s → step_of o s (v s.density) ≡ Try x → From o v n (moved_of s (v s.density) x) → From o v (suc n) s
  pass n s x e p d = subst (λ (l : List Float). Done o v l (last_from o v (suc n) s)) (sym (list_step n s (Try x) e p)) (subst (λ (z : Search). Done o v (trials_from o v n (moved_of s (v s.density) x)) z) (sym (last_step o v n s (Try x) p)) d)

  -- a step that ends the search at an end: refused by a row up to 16, or accepted within the bracket
  refused : (n : ℕ) (m : Stop) (s : Search) → Outer s → s.trials ≡ 0 → step_of o s (v s.density) ≡ Refused m → (m ≡ stop.Collapsed → ⊥) × (m ≡ stop.LimitReached → ⊥) → From o v (suc n) s
  refused n m s e z p h =
      subst (λ (l : List Float). Done o v l (last_from o v (suc n) s)) (sym (list_step n s (Refused m) e p))
      (subst (λ (w : Search). Done o v [] w) (sym (last_step o v n s (Refused m) p))
      (record {
        few = zero-le;
        known = subst (λ (a : Step). Known o v [] s a) (sym p) (record {
          counts = z;
          accepted = λ x q. cc;
          collapses = λ q. absurd (h.0 (cc));
          limited = λ q. absurd (h.1 (cc));
        });
      }))

  accepted : (n : ℕ) (s : Search) (x : Float) → Outer s → s.trials ≡ 0 → step_of o s (v s.density) ≡ Accepted x → T (le o.bracket.lo x) → T (le x o.bracket.hi) → From o v (suc n) s
  accepted n s x e z p lo hi =
      subst (λ (l : List Float). Done o v l (last_from o v (suc n) s)) (sym (list_step n s (Accepted x) e p))
      (subst (λ (w : Search). Done o v [] w) (sym (last_step o v n s (Accepted x) p))
      (record {
        few = zero-le;
        known = subst (λ (a : Step). Known o v [] s a) (sym p) (record {
          counts = z;
          accepted = λ y q. (subst (λ (w : Float). T (le o.bracket.lo w)) (cc) lo, subst (λ (w : Float). T (le w o.bracket.hi)) (cc) hi);
          collapses = λ q. cc;
          limited = λ q. cc;
        });
      }))

  -- a refusal at the low end is the search's answer
  pub stopped_low : (r : Refusal) → v o.bracket.lo ≡ Err r → answer_of o v ≡ Refused (stop.Trial r)
  unfolding answer_of last_of begin_of step_of
  stopped_low r e =
      let p : step_of o (begin_of o) (v o.bracket.lo) ≡ Refused (stop.Trial r) = ap (step_of o (begin_of o)) e in
      ap (λ (s : Search). step_of o s (v s.density)) (last_step o v (suc o.limit) (begin_of o) (Refused (stop.Trial r)) p) ∙ p

-- ---- the state at the high end, and the first interior one
abbrev pub at_high : Options → Float → Search
at_high o f = record { stage = High; density = o.bracket.hi; bracket = o.bracket; low_residual = f; trials = 0 }

abbrev pub at_middle : Options → Float → Search
at_middle o f = record { stage = Interior; density = middle_of o.bracket; bracket = o.bracket; low_residual = f; trials = 0 + 1 }

module _ (o : Options) (v : Float → Sample) (b : Begun o) (fair : Fair v) where
  r : Ranged o.bracket.lo o.bracket.hi
  r = b.ranged

  -- the first interior state: the ends have residuals of unlike signs, outside the tolerance
  pub first_inner : (f d g e : Float) → v o.bracket.lo ≡ Ok (f, d) → v o.bracket.hi ≡ Ok (g, e) → within_of o.tolerance f ≡ false → within_of o.tolerance g ≡ false → lt +0 f ≡ false → lt g +0 ≡ false → Inner o v (at_middle o f)
  first_inner f d g e p q wf wg sf sg = record {
    stage = refl;
    ranged = r;
    good = middle_good o.bracket.lo o.bracket.hi r;
    from = middle_from o.bracket.lo o.bracket.hi r;
    to = middle_to o.bracket.lo o.bracket.hi r;
    first = le_refl (count o.bracket.lo);
    last = le_refl (count o.bracket.hi);
    below = record { f = f; derivative = d; is = p; outside = wf; sign = below_zero o.tolerance f b.tolerance (fair.number o.bracket.lo f d p) sf wf };
    above = record { f = g; derivative = e; is = q; outside = wg; sign = sg };
  }

  inner : (f : Float) → Inner o v (at_middle o f) → From o v o.limit (at_middle o f)
  inner f i =
      let l = trials_from o v o.limit (at_middle o f) in
      record {
        few = first_bounded o v o.limit (at_middle o f) i;
        known = ends o v fair r.low r.high l o.limit (at_middle o f) i (record {
          seen = λ x m. m;
          low = inl refl;
          high = inr (inl refl);
          counts = refl;
          left = refl;
          made = some_limit o b;
        });
      }

  -- both ends are worked out
  both : (f d g e : Float) → v o.bracket.lo ≡ Ok (f, d) → v o.bracket.hi ≡ Ok (g, e) → From o v (suc o.limit) (at_high o f)
  unfolding step_of stage_of ends_of moved_of moved_by
  both f d g e p q = go (within_of o.tolerance f) (within_of o.tolerance g) (lt +0 f || lt g +0) refl refl refl
    where
      answers : step_of o (at_high o f) (v o.bracket.hi) ≡ ends_of o f g
      answers = ap (step_of o (at_high o f)) q

      order : T (le o.bracket.lo o.bracket.hi)
      order = count→le o.bracket.lo o.bracket.hi r.low r.high (le_of_lt r.rises)

      go : (x y z : Bool) → within_of o.tolerance f ≡ x → within_of o.tolerance g ≡ y → (lt +0 f || lt g +0) ≡ z → From o v (suc o.limit) (at_high o f)
      go true y z ex ey ez =
          accepted o v o.limit (at_high o f) o.bracket.lo (λ l. refl) refl (answers ∙ rw ex) (count→le o.bracket.lo o.bracket.lo r.low r.low (le_refl (count o.bracket.lo))) order
      go false true z ex ey ez =
          accepted o v o.limit (at_high o f) o.bracket.hi (λ l. refl) refl (answers ∙ rw (ex, ey)) order (count→le o.bracket.hi o.bracket.hi r.high r.high (le_refl (count o.bracket.hi)))
      go false false true ex ey ez = refused o v o.limit stop.NotBracketed (at_high o f) (λ l. refl) refl (answers ∙ rw (ex, ey, ez)) (λ q. cc, λ q. cc)
      go false false false ex ey ez =
          let s = or_false (lt +0 f) (lt g +0) ez in
          pass o v o.limit (at_high o f) (middle_of o.bracket) (λ l. refl) (answers ∙ rw (ex, ey, ez))
          (subst (λ (y : Sample). From o v o.limit (moved_of (at_high o f) y (middle_of o.bracket))) (sym q) (inner f (first_inner f d g e p q ex ey s.0 s.1)))

  high : (f d : Float) → v o.bracket.lo ≡ Ok (f, d) → From o v (suc o.limit) (at_high o f)
  unfolding step_of
  high f d p = go (v o.bracket.hi) refl
    where
      go : (y : Sample) → v o.bracket.hi ≡ y → From o v (suc o.limit) (at_high o f)
      go (Err r) q = refused o v o.limit (stop.Trial r) (at_high o f) (λ l. refl) refl (ap (step_of o (at_high o f)) q) (λ z. cc, λ z. cc)
      go (Ok (g, e)) q = both f d g e p q

  pub whole : Done o v (searched o v) (last_of o v)
  unfolding searched last_of begin_of step_of stage_of moved_of moved_by
  whole = go (v o.bracket.lo) refl
    where
      go : (y : Sample) → v o.bracket.lo ≡ y → From o v (steps o) (begin_of o)
      go (Err r) p = refused o v (suc o.limit) (stop.Trial r) (begin_of o) (λ l. refl) refl (ap (step_of o (begin_of o)) p) (λ z. cc, λ z. cc)
      go (Ok (f, d)) p =
          pass o v (suc o.limit) (begin_of o) o.bracket.hi (λ l. refl) (ap (step_of o (begin_of o)) p)
          (subst (λ (y : Sample). From o v (suc o.limit) (moved_of (begin_of o) y o.bracket.hi)) (sym p) (high f d p))
