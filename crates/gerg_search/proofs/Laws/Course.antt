-- How a search ends: what holds of the state whose step ends it, of the whole list of trials, and of the answer. Assumes nothing.
use mathlib.Core.Path.{◌≡◌, refl, sym, ap, ◌∙◌, subst}
use mathlib.Core.Logic.{◌⊎◌, inl, inr}
use mathlib.Core.Bool.{Bool, true, false, not}
use mathlib.Core.List.{List, [], ◌∷◌, Memᴰ}
use Prim.Native.Nat.{ℕ, zero, suc, ◌+◌, ◌≤◌, ◌<◌}
use native.Mathlib.Nat.{le_trans, le_antisymm}
use native.Mathlib.Omega.{arith}
use lib.Dec.{T, leb, leb→le, nleb→lt}
use lib.Ieee.{Float, le}
use lib.ListN.{length}
use Rattle.numerics.specs.Double.{pick}
use Rattle.gerg_search.specs.Point.{next_of, collapsed_at, within_of}
use Rattle.gerg_search.specs.Steps.{go_on_of, interior_of, stage_of, step_of, moved_by, moved_of}
use Rattle.gerg_search.specs.Run.{on_try, trials_from, last_from}
use Rattle.gerg_search.proofs.Laws.Verdicts.{Fair, Outside, Seen, Full}
use Rattle.gerg_search.specs.States.{left_by}
use Rattle.interval.specs.declared.Interval.{Interval}
use Rattle.gerg_search.specs.declared.Options.{Options}
use Rattle.gerg_search.specs.Sample.{Sample}
use Rattle.gerg_search.specs.declared.Stage.TheVariants.{Interior}
use Rattle.gerg_search.specs.declared.Search.{Search}
use Rattle.gerg_search.specs.declared.Step.{Step}
use Rattle.gerg_search.specs.declared.Step.TheVariants.{Try, Accepted, Refused}
use Rattle.numerics.specs.Spacing.{Good, count→lt, count→le}
use Rattle.numerics.specs.SpacingRounded.{Ranged}
use Rattle.gerg_search.proofs.Laws.Shrink.{next_shrinks}
use Rattle.gerg_search.proofs.Laws.Inner.{Inner, Narrowed, Gone, narrows, steps_on, stays_inner}
use Rattle.gerg_search.proofs.Laws.Bound.{list_is}
use Rattle.gerg_search.proofs.Laws.Ended.{last_step}
use Rattle.std.specs.Prelude.{Ok, Err}
use Rattle.gerg_search.specs.declared.Stop.TheVariants as stop
use Rattle.gerg_search.specs.declared.Stop.{Stop}

-- ---- an interior step's answer and what it says
abbrev next : Search → Float → Float → Float
next s f d = next_of (left_by s f) s.density f d

-- the three tests, in their order: within the tolerance, collapsed, the limit
abbrev answer : Search → Float → Float → Bool → Bool → Bool → Step
answer s f d w c l = pick w (Accepted s.density) (pick c (Refused stop.Collapsed) (pick l (Refused stop.LimitReached) (Try (next s f d))))

accepts : (o : Options) (s : Search) (f d x : Float) → interior_of o s f d ≡ Accepted x → x ≡ s.density
unfolding interior_of go_on_of
accepts o s f d x e = go (within_of o.tolerance f) (collapsed_at (left_by s f) (next s f d)) (leb o.limit s.trials) e
  where
    go : (w c l : Bool) → answer s f d w c l ≡ Accepted x → x ≡ s.density
    go true c l e = cc
    go false true l e = cc
    go false false true e = cc
    go false false false e = cc

record Refuses (o : Options) (s : Search) (f d : Float) (c : Stop) : Type 0 where
  outside : within_of o.tolerance f ≡ false
  cause : ((c ≡ stop.Collapsed) × (collapsed_at (left_by s f) (next s f d) ≡ true)) ⊎ ((c ≡ stop.LimitReached) × (collapsed_at (left_by s f) (next s f d) ≡ false) × (leb o.limit s.trials ≡ true))

refuses : (o : Options) (s : Search) (f d : Float) (c : Stop) → interior_of o s f d ≡ Refused c → Refuses o s f d c
unfolding interior_of go_on_of
refuses o s f d k e = go (within_of o.tolerance f) (collapsed_at (left_by s f) (next s f d)) (leb o.limit s.trials) refl refl refl e
  where
    go : (w c l : Bool) → within_of o.tolerance f ≡ w → collapsed_at (left_by s f) (next s f d) ≡ c → leb o.limit s.trials ≡ l → answer s f d w c l ≡ Refused k → Refuses o s f d k
    go true c l p q r e = cc
    go false true l p q r e = record { outside = p; cause = inl ((cc), q) }
    go false false true p q r e = record { outside = p; cause = inr ((cc), q, r) }
    go false false false p q r e = cc

-- ---- what the whole list holds while a search goes on: n steps are left
pub record Held (o : Options) (v : Float → Sample) (l : List Float) (n : ℕ) (s : Search) : Type 0 where
  pub seen : (x : Float) → Memᴰ x (trials_from o v n s) → Memᴰ x l
  pub low : Seen o l s.bracket.lo
  pub high : Seen o l s.bracket.hi
  pub counts : length (trials_from o v n s) + s.trials ≡ length l + 1
  pub left : n + s.trials ≡ o.limit + 1
  pub made : s.trials ≤ o.limit

-- ---- what is known at the end
-- row 18: two tried densities, nothing between them but what the middle's rounding hides, residuals of unlike signs
pub record Collapsed (o : Options) (v : Float → Sample) (l : List Float) : Type 0 where
  pub bracket : Interval
  pub ranged : Ranged bracket.lo bracket.hi
  pub at : Float
  pub f : Float
  pub derivative : Float
  pub collapsed : collapsed_at bracket (next_of bracket at f derivative) ≡ true
  pub low : Seen o l bracket.lo
  pub high : Seen o l bracket.hi
  pub below : Outside o v true bracket.lo
  pub above : Outside o v false bracket.hi

pub record Known (o : Options) (v : Float → Sample) (l : List Float) (s : Search) (a : Step) : Type 0 where
  pub counts : s.trials ≡ length l
  pub accepted : (x : Float) → a ≡ Accepted x → T (le o.bracket.lo x) × T (le x o.bracket.hi)
  pub collapses : a ≡ Refused stop.Collapsed → Collapsed o v l
  pub limited : a ≡ Refused stop.LimitReached → Full o v s l

-- the state that a step ends
abbrev pub Ends : Options → (Float → Sample) → List Float → Search → Type 0
Ends o v l s = Known o v l s (step_of o s (v s.density))

module _ (o : Options) (v : Float → Sample) (fair : Fair v) (gl : Good o.bracket.lo) (gh : Good o.bracket.hi) (l : List Float) where
  list_by : (n : ℕ) (s : Search) (a : Step) → s.stage ≡ Interior → step_of o s (v s.density) ≡ a → trials_from o v (suc n) s ≡ s.density ∷ on_try a (λ x. trials_from o v n (moved_of s (v s.density) x)) []
  list_by n s a e p = list_is o v n s e ∙ ap (λ (z : Step). s.density ∷ on_try z (λ x. trials_from o v n (moved_of s (v s.density) x)) []) p

  -- the density of an interior state is in the list
  here : (n : ℕ) (s : Search) → Inner o v s → Held o v l (suc n) s → Memᴰ s.density l
  here n s i h = h.seen s.density (subst (λ (z : List Float). Memᴰ s.density z) (sym (list_is o v n s i.stage)) (Memᴰ.head refl))

  tried_part : (n : ℕ) (s : Search) (b : Interval) → Inner o v s → Held o v l (suc n) s → Narrowed o v s b → Seen o l b.lo × Seen o l b.hi
  tried_part n s b i h m =
      let d : Seen o l s.density = inr (inr (here n s i h)) in
      elim m.part [
        | inl p ↦ (subst (λ (z : Float). Seen o l z) (sym p.1) d, subst (λ (z : Float). Seen o l z) (sym p.0) h.high)
        | inr p ↦ (subst (λ (z : Float). Seen o l z) (sym p.0) h.low, subst (λ (z : Float). Seen o l z) (sym p.1) d)
      ]

  held_on : (n : ℕ) (s : Search) (x : Float) → Inner o v s → Held o v l (suc n) s → step_of o s (v s.density) ≡ Try x → Gone o v s x → Held o v l n (moved_of s (v s.density) x)
  unfolding moved_by
  held_on n s x i h e g =
      let t = trials_from o v n (moved_of s (v s.density) x) in
      let is : trials_from o v (suc n) s ≡ s.density ∷ t = list_by n s (Try x) i.stage e in
      let b = tried_part n s (left_by s g.f) i h g.narrowed in
      let m : moved_of s (v s.density) x ≡ moved_by s g.f x Interior = g.moved in
      let c : suc (length t) + s.trials ≡ length l + 1 = subst (λ (z : List Float). length z + s.trials ≡ length l + 1) is h.counts in
      let k : s.trials < o.limit = nleb→lt o.limit s.trials (subst (λ (z : Bool). T (not z)) (sym g.goes.more) tt) in
      let f : suc n + s.trials ≡ o.limit + 1 = h.left in
      record {
        seen = λ y q. h.seen y (subst (λ (z : List Float). Memᴰ y z) (sym is) (Memᴰ.tail q));
        low = subst (λ (z : Search). Seen o l z.bracket.lo) (sym m) b.0;
        high = subst (λ (z : Search). Seen o l z.bracket.hi) (sym m) b.1;
        counts = subst (λ (z : ℕ). length t + z ≡ length l + 1) (sym (ap trials_of m)) (omega arith);
        left = subst (λ (z : ℕ). n + z ≡ o.limit + 1) (sym (ap trials_of m)) (omega arith);
        made = subst (λ (z : ℕ). z ≤ o.limit) (sym (ap trials_of m)) (omega arith);
      }
    where
      trials_of : Search → ℕ
      trials_of z = z.trials

  -- an interior step that ends the search
  stops : (n : ℕ) (s : Search) (a : Step) → Inner o v s → Held o v l (suc n) s → step_of o s (v s.density) ≡ a → on_try a (λ x. trials_from o v n (moved_of s (v s.density) x)) [] ≡ [] → Known o v l s a
  unfolding step_of stage_of
  stops n s a i h p e =
      let is : trials_from o v (suc n) s ≡ s.density ∷ [] = list_by n s a i.stage p ∙ ap (λ (z : List Float). s.density ∷ z) e in
      let c : 1 + s.trials ≡ length l + 1 = subst (λ (z : List Float). length z + s.trials ≡ length l + 1) is h.counts in
      let cs : s.trials ≡ length l = omega arith in
      record {
        counts = cs;
        accepted = λ x q. accept (v s.density) x (p ∙ q);
        collapses = λ q. collapse (v s.density) refl (p ∙ q);
        limited = λ q. limit (v s.density) refl cs (p ∙ q);
      }
    where
      accept : (y : Sample) (x : Float) → step_of o s y ≡ Accepted x → T (le o.bracket.lo x) × T (le x o.bracket.hi)
      accept (Err m) x q = cc
      accept (Ok (f, d)) x q =
          let z = accepts o s f d x (sym (ap (stage_of o s f d) i.stage) ∙ q) in (
            subst (λ (w : Float). T (le o.bracket.lo w)) (sym z) (count→le o.bracket.lo s.density gl i.good (le_trans i.first i.from)),
            subst (λ (w : Float). T (le w o.bracket.hi)) (sym z) (count→le s.density o.bracket.hi i.good gh (le_trans i.to i.last)),
          )

      collapse : (y : Sample) → v s.density ≡ y → step_of o s y ≡ Refused stop.Collapsed → Collapsed o v l
      collapse (Err m) w q = cc
      collapse (Ok (f, d)) w q =
          let z = refuses o s f d stop.Collapsed (sym (ap (stage_of o s f d) i.stage) ∙ q) in
          let b = narrows o v s f d i w z.outside in
          let k = tried_part n s (left_by s f) i h b in
          elim z.cause [
            | inl u ↦ record { bracket = left_by s f; ranged = b.ranged; at = s.density; f = f; derivative = d; collapsed = u.1; low = k.0; high = k.1; below = b.below; above = b.above }
            | inr u ↦ let q = u.0 in cc
          ]

      limit : (y : Sample) → v s.density ≡ y → s.trials ≡ length l → step_of o s y ≡ Refused stop.LimitReached → Full o v s l
      limit (Err m) w cs q = cc
      limit (Ok (f, d)) w cs q =
          let z = refuses o s f d stop.LimitReached (sym (ap (stage_of o s f d) i.stage) ∙ q) in
          let b = narrows o v s f d i w z.outside in
          elim z.cause [
            | inl u ↦ let q = u.0 in cc
            | inr u ↦
                let g = next_shrinks (left_by s f) s.density f d b.ranged u.1 in
                record {
                  trials = sym cs ∙ le_antisymm h.made (leb→le o.limit s.trials (subst T (sym u.2) tt));
                  interior = i.stage;
                  f = f;
                  derivative = d;
                  is = w;
                  outside = z.outside;
                  between = next s f d;
                  held = g.good.held;
                  over = count→lt (left_by s f).lo (next s f d) b.ranged.low g.good g.over;
                  under = count→lt (next s f d) (left_by s f).hi g.good b.ranged.high g.under;
                }
          ]

  pub ends : (n : ℕ) (s : Search) → Inner o v s → Held o v l n s → Ends o v l (last_from o v n s)
  ends zero s i h = absurd (none o.limit s.trials h.left h.made)
    where
      none : (a b : ℕ) → 0 + b ≡ a + 1 → b ≤ a → ⊥
      none a b e k = omega arith
  ends (suc n) s i h = go (step_of o s (v s.density)) refl (λ x. ends n (moved_of s (v s.density) x))
    where
      go : (a : Step) → step_of o s (v s.density) ≡ a → ((x : Float) → Inner o v (moved_of s (v s.density) x) → Held o v l n (moved_of s (v s.density) x) → Ends o v l (last_from o v n (moved_of s (v s.density) x))) → Ends o v l (last_from o v (suc n) s)
      go (Try x) p r =
          let g = steps_on o v s x i p in
          subst (λ (z : Search). Ends o v l z) (sym (last_step o v n s (Try x) p)) (r x (stays_inner o v s x i g) (held_on n s x i h p g))
      go (Accepted x) p r = subst (λ (z : Search). Ends o v l z) (sym (last_step o v n s (Accepted x) p)) (subst (λ (a : Step). Known o v l s a) (sym p) (stops n s (Accepted x) i h p refl))
      go (Refused m) p r = subst (λ (z : Search). Ends o v l z) (sym (last_step o v n s (Refused m) p)) (subst (λ (a : Step). Known o v l s a) (sym p) (stops n s (Refused m) i h p refl))
