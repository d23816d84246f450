-- Every state of a search, and the trial after which no double is left between the ends. Assumes nothing.
use mathlib.Core.Path.{◌≡◌, refl, sym, ap, ◌∙◌, subst}
use mathlib.Core.Logic.{◌⊎◌, inl, inr}
use mathlib.Core.Bool.{Bool, true, false, ◌||◌}
use mathlib.Core.List.{List, [], Memᴰ}
use Prim.Native.Nat.{ℕ, zero, suc, ◌+◌}
use lib.Ieee.{Float, lt}
use Rattle.numerics.specs.Double.{+0, pick}
use Rattle.numerics.specs.Tests.{or_false}
use Rattle.numerics.specs.Spacing.{count→lt}
use Rattle.gerg_search.specs.Point.{next_of, collapsed_at, within_of}
use Rattle.interval.specs.Interval.{middle_of}
use Rattle.gerg_search.specs.Steps.{begin_of, go_on_of, interior_of, ends_of, stage_of, step_of, moved_by, moved_of}
use Rattle.gerg_search.specs.Run.{on_try, counted, trials_from, searched, last_of, answer_of}
use Rattle.gerg_search.specs.States.{NoneBetween, state_after, left_by}
use Rattle.gerg_search.specs.declared.Options.{Options}
use Rattle.gerg_search.specs.Sample.{Sample}
use Rattle.gerg_search.specs.declared.Stage.{Stage}
use Rattle.gerg_search.specs.declared.Stage.TheVariants.{Low, High, Interior}
use Rattle.gerg_search.specs.declared.Search.{Search}
use Rattle.gerg_search.specs.declared.Step.{Step}
use Rattle.gerg_search.specs.declared.Step.TheVariants.{Try, Accepted, Refused}
use Rattle.gerg_search.proofs.Laws.Verdicts.{Fair}
use Rattle.gerg_search.proofs.Laws.Shrink.{next_shrinks}
use Rattle.gerg_search.proofs.Laws.Inner.{Inner, narrows, steps_on, stays_inner}
use Rattle.gerg_search.proofs.Laws.Bound.{list_is}
use Rattle.gerg_search.proofs.Laws.Start.{Begun, some_limit}
use Rattle.gerg_search.proofs.Laws.Whole.{at_high, first_inner}
use Rattle.gerg_search.proofs.Laws.Ahead.{Ahead, steps_left, begins, goes_on, is_last}
use Rattle.std.specs.Prelude.{Ok, Err}
use Rattle.gerg_search.specs.declared.Stop.TheVariants as stop

-- the low end, the high end with the residual found at the low one, or an interior state
abbrev Standing : Options → (Float → Sample) → Search → Type 0
Standing o v s = (s ≡ begin_of o) ⊎ ((f : Float) × (d : Float) × (v o.bracket.lo ≡ Ok (f, d)) × (s ≡ at_high o f)) ⊎ Inner o v s

module _ (o : Options) (v : Float → Sample) (b : Begun o) (fair : Fair v) where
  from_low : (x : Float) → step_of o (begin_of o) (v o.bracket.lo) ≡ Try x → Standing o v (moved_of (begin_of o) (v o.bracket.lo) x)
  unfolding begin_of step_of stage_of moved_of moved_by
  from_low x e = go (v o.bracket.lo) refl e
    where
      go : (y : Sample) → v o.bracket.lo ≡ y → step_of o (begin_of o) y ≡ Try x → Standing o v (moved_of (begin_of o) y x)
      go (Err n) p e = cc
      go (Ok (f, d)) p e = let q : x ≡ o.bracket.hi = cc in inr (inl (f, d, p, ap (λ (w : Float). record { stage = High; density = w; bracket = o.bracket; low_residual = f; trials = 0 }) q))

  from_high : (f d x : Float) → v o.bracket.lo ≡ Ok (f, d) → step_of o (at_high o f) (v o.bracket.hi) ≡ Try x → Standing o v (moved_of (at_high o f) (v o.bracket.hi) x)
  unfolding step_of stage_of ends_of moved_of moved_by
  from_high f d x p e = go (v o.bracket.hi) refl e
    where
      tests : (g h : Float) → v o.bracket.hi ≡ Ok (g, h) → (i j k : Bool) → within_of o.tolerance f ≡ i → within_of o.tolerance g ≡ j → (lt +0 f || lt g +0) ≡ k →
          pick i (Accepted o.bracket.lo) (pick j (Accepted o.bracket.hi) (pick k (Refused stop.NotBracketed) (Try (middle_of o.bracket)))) ≡ Try x → Standing o v (moved_of (at_high o f) (Ok (g, h)) x)
      tests g h q true j k ei ej ek e = cc
      tests g h q false true k ei ej ek e = cc
      tests g h q false false true ei ej ek e = cc
      tests g h q false false false ei ej ek e =
          let s = or_false (lt +0 f) (lt g +0) ek in
          let w : middle_of o.bracket ≡ x = cc in
          inr (inr (subst (λ (y : Float). Inner o v (record { stage = Interior; density = y; bracket = o.bracket; low_residual = f; trials = 0 + 1 })) w (first_inner o v b fair f d g h p q ei ej s.0 s.1)))

      go : (y : Sample) → v o.bracket.hi ≡ y → step_of o (at_high o f) y ≡ Try x → Standing o v (moved_of (at_high o f) y x)
      go (Err n) q e = cc
      go (Ok (g, h)) q e = tests g h q (within_of o.tolerance f) (within_of o.tolerance g) (lt +0 f || lt g +0) refl refl refl e

  stands_on : (s : Search) (x : Float) → Standing o v s → step_of o s (v s.density) ≡ Try x → Standing o v (moved_of s (v s.density) x)
  stands_on s x (inl e) = subst (λ (w : Search). step_of o w (v w.density) ≡ Try x → Standing o v (moved_of w (v w.density) x)) (sym e) (unfold begin_of in from_low x)
  stands_on s x (inr (inl (f, d, p, e))) = subst (λ (w : Search). step_of o w (v w.density) ≡ Try x → Standing o v (moved_of w (v w.density) x)) (sym e) (from_high f d x p)
  stands_on s x (inr (inr i)) = λ q. inr (inr (stays_inner o v s x i (steps_on o v s x i q)))

  stands : (n : ℕ) → Standing o v (state_after o v n) × Ahead o v (state_after o v n)
  unfolding state_after
  stands zero = (inl refl, begins o v)
  stands (suc n) = go (state_after o v n) (step_of o (state_after o v n) (v (state_after o v n).density)) refl (stands n)
    where
      go : (s : Search) (a : Step) → step_of o s (v s.density) ≡ a → Standing o v s × Ahead o v s → Standing o v (on_try a (moved_of s (v s.density)) s) × Ahead o v (on_try a (moved_of s (v s.density)) s)
      go s (Try x) q h = (stands_on s x h.0 q, (goes_on o v s x (some_limit o b) h.1 q).ahead)
      go s (Accepted x) q h = h
      go s (Refused k) q h = h

  -- what is tried from a state on is in the list of the whole search
  seen : (n : ℕ) (y : Float) → Memᴰ y (trials_from o v (suc (steps_left o (state_after o v n))) (state_after o v n)) → Memᴰ y (searched o v)
  unfolding state_after searched trials_from begin_of
  seen zero y h = h
  seen (suc n) y h = go (state_after o v n) (stands n).1 (step_of o (state_after o v n) (v (state_after o v n).density)) refl (seen n y) h
    where
      kept : (g : Stage) (d : Float) (l : List Float) → Memᴰ y l → Memᴰ y (counted g d l)
      kept Low d l h = h
      kept High d l h = h
      kept Interior d l h = Memᴰ.tail h

      go : (s : Search) → Ahead o v s → (a : Step) → step_of o s (v s.density) ≡ a → (Memᴰ y (trials_from o v (suc (steps_left o s)) s) → Memᴰ y (searched o v))
          → Memᴰ y (trials_from o v (suc (steps_left o (on_try a (moved_of s (v s.density)) s))) (on_try a (moved_of s (v s.density)) s)) → Memᴰ y (searched o v)
      go s a (Try x) q whole h =
          let m = moved_of s (v s.density) x in
          let l = (goes_on o v s x (some_limit o b) a q).less in
          whole (kept s.stage s.density (on_try (step_of o s (v s.density)) (λ z. trials_from o v (steps_left o s) (moved_of s (v s.density) z)) [])
          (subst (λ (z : Step). Memᴰ y (on_try z (λ w. trials_from o v (steps_left o s) (moved_of s (v s.density) w)) [])) (sym q) (subst (λ (k : ℕ). Memᴰ y (trials_from o v k m)) (sym l) h)))
      go s a (Accepted x) q whole h = whole h
      go s a (Refused k) q whole h = whole h

  pub listed : (n : ℕ) → (state_after o v n).stage ≡ Interior → Memᴰ (state_after o v n).density (searched o v)
  listed n e =
      let s = state_after o v n in
      seen n s.density (subst (λ (l : List Float). Memᴰ s.density l) (sym (list_is o v (steps_left o s) s e)) (Memᴰ.head refl))

  -- an interior trial outside the tolerance that leaves no double between the ends is collapsed
  collapses : (s : Search) (f d : Float) → Inner o v s → v s.density ≡ Ok (f, d) → within_of o.tolerance f ≡ false → NoneBetween (left_by s f).lo (left_by s f).hi → step_of o s (v s.density) ≡ Refused stop.Collapsed
  unfolding step_of stage_of interior_of go_on_of
  collapses s f d i e w none = ap (step_of o s) e ∙ ap (stage_of o s f d) i.stage ∙ go (collapsed_at (left_by s f) (next_of (left_by s f) s.density f d)) refl
    where
      go : (c : Bool) → collapsed_at (left_by s f) (next_of (left_by s f) s.density f d) ≡ c → interior_of o s f d ≡ Refused stop.Collapsed
      go true q = rw (w, q)
      go false q =
          let n = narrows o v s f d i e w in
          let x = next_shrinks (left_by s f) s.density f d n.ranged q in
          let y = next_of (left_by s f) s.density f d in
          absurd (none y x.good.held (count→lt (left_by s f).lo y n.ranged.low x.good x.over) (count→lt y (left_by s f).hi x.good n.ranged.high x.under))

  pub exhausts : (n : ℕ) (f d : Float) → (state_after o v n).stage ≡ Interior → v (state_after o v n).density ≡ Ok (f, d) → within_of o.tolerance f ≡ false
      → NoneBetween (left_by (state_after o v n) f).lo (left_by (state_after o v n) f).hi → answer_of o v ≡ Refused stop.Collapsed
  unfolding begin_of answer_of
  exhausts n f d = let h = stands n in at_state (state_after o v n) h.0 h.1
    where
      no : {A : Type 0} (s : Search) (g : Stage) → s.stage ≡ g → g ≡ Low ⊎ g ≡ High → s.stage ≡ Interior → A
      no s g p (inl q) e = cc
      no s g p (inr q) e = cc

      stage_of_lem : Search → Stage
      stage_of_lem s = s.stage

      at_state : (s : Search) → Standing o v s → Ahead o v s → s.stage ≡ Interior → v s.density ≡ Ok (f, d) → within_of o.tolerance f ≡ false → NoneBetween (left_by s f).lo (left_by s f).hi → answer_of o v ≡ Refused stop.Collapsed
      at_state s (inl q) a e p w none = no s Low (ap stage_of_lem q) (inl refl) e
      at_state s (inr (inl q)) a e p w none = no s High (ap stage_of_lem q.3) (inr refl) e
      at_state s (inr (inr i)) a e p w none =
          let r : step_of o s (v s.density) ≡ Refused stop.Collapsed = collapses s f d i p w none in
          let l : s ≡ last_of o v = is_last o v s a (λ x t. cc) in
          ap (λ (z : Search). step_of o z (v z.density)) (sym l) ∙ r
