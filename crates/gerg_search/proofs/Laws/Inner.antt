-- What holds of a search while it tries interior densities, and that one step keeps it. Assumes nothing.
use mathlib.Core.Path.{◌≡◌, refl, sym, ap, ◌∙◌, subst}
use mathlib.Core.Logic.{◌⊎◌, inl, inr}
use mathlib.Core.Bool.{Bool, true, false, true≢false}
use Prim.Native.Nat.{ℕ, ◌≤◌, ◌<◌}
use native.Mathlib.Nat.{le_trans, le_of_lt, eq-or-lt_of_le}
use native.Mathlib.Omega.{arith}
use lib.Dec.{leb}
use lib.Ieee.{Float, lt}
use Rattle.numerics.specs.Double.{+0, pick}
use Rattle.gerg_search.specs.Point.{next_of, collapsed_at, within_of}
use Rattle.interval.specs.Interval.{narrowed_of}
use Rattle.gerg_search.specs.Steps.{go_on_of, interior_of, stage_of, step_of, moved_by, moved_of}
use Rattle.gerg_search.proofs.Laws.Verdicts.{Outside}
use Rattle.gerg_search.specs.States.{left_by}
use Rattle.interval.specs.declared.Interval.{Interval}
use Rattle.gerg_search.specs.declared.Options.{Options}
use Rattle.gerg_search.specs.Sample.{Sample}
use Rattle.gerg_search.specs.declared.Stage.TheVariants.{Interior}
use Rattle.gerg_search.specs.declared.Search.{Search}
use Rattle.gerg_search.specs.declared.Step.TheVariants.{Try, Accepted, Refused}
use Rattle.numerics.specs.Spacing.{count, Good, same}
use Rattle.numerics.specs.SpacingRounded.{Ranged}
use Rattle.gerg_search.proofs.Laws.Shrink.{Shrunk, next_shrinks}
use Rattle.std.specs.Prelude.{Ok, Err}
use Rattle.gerg_search.specs.declared.Stop.TheVariants as stop

-- ---- what an interior step says, by its answer
pub record Goes (o : Options) (s : Search) (f d x : Float) : Type 0 where
  pub outside : within_of o.tolerance f ≡ false
  pub apart : collapsed_at (left_by s f) (next_of (left_by s f) s.density f d) ≡ false
  pub more : leb o.limit s.trials ≡ false
  pub next : next_of (left_by s f) s.density f d ≡ x

pub interior_try : (o : Options) (s : Search) (f d x : Float) → interior_of o s f d ≡ Try x → Goes o s f d x
unfolding interior_of go_on_of
interior_try o s f d x e =
    go (within_of o.tolerance f) (collapsed_at (left_by s f) (next_of (left_by s f) s.density f d)) (leb o.limit s.trials) refl refl refl e
  where
    go : (w c l : Bool) → within_of o.tolerance f ≡ w → collapsed_at (left_by s f) (next_of (left_by s f) s.density f d) ≡ c → leb o.limit s.trials ≡ l
        → pick w (Accepted s.density) (pick c (Refused stop.Collapsed) (pick l (Refused stop.LimitReached) (Try (next_of (left_by s f) s.density f d)))) ≡ Try x
        → Goes o s f d x
    go true c l p q r e = cc
    go false true l p q r e = cc
    go false false true p q r e = cc
    go false false false p q r e = record { outside = p; apart = q; more = r; next = cc }

-- ---- an interior state
pub record Inner (o : Options) (v : Float → Sample) (s : Search) : Type 0 where
  pub stage : s.stage ≡ Interior
  pub ranged : Ranged s.bracket.lo s.bracket.hi
  pub good : Good s.density
  pub from : count s.bracket.lo ≤ count s.density
  pub to : count s.density ≤ count s.bracket.hi
  pub first : count o.bracket.lo ≤ count s.bracket.lo
  pub last : count s.bracket.hi ≤ count o.bracket.hi
  pub below : Outside o v true s.bracket.lo
  pub above : Outside o v false s.bracket.hi

-- two densities with residuals of unlike signs are not one
apart : (o : Options) (v : Float → Sample) (x y : Float) → Outside o v true x → Outside o v false y → x ≡ y → ⊥
apart o v x y a b e = true≢false (sym a.sign ∙ ap (λ (z : Float). lt z +0) same_f ∙ b.sign)
  where
    first_of : Sample → Float
    first_of (Ok (f, d)) = f
    first_of (Err n) = +0

    same_f : a.f ≡ b.f
    same_f = ap first_of (sym a.is ∙ ap v e ∙ b.is)

strict : (m n : ℕ) → m ≤ n → (m ≡ n → ⊥) → m < n
strict m n h k = elim (eq-or-lt_of_le h) [ inl e ↦ absurd (k e) | inr l ↦ l ]

-- the bracket after a trial that neither accepts nor refuses
pub record Narrowed (o : Options) (v : Float → Sample) (s : Search) (b : Interval) : Type 0 where
  pub ranged : Ranged b.lo b.hi
  pub first : count o.bracket.lo ≤ count b.lo
  pub last : count b.hi ≤ count o.bracket.hi
  pub below : Outside o v true b.lo
  pub above : Outside o v false b.hi
  pub part : ((b.hi ≡ s.bracket.hi) × (b.lo ≡ s.density)) ⊎ ((b.lo ≡ s.bracket.lo) × (b.hi ≡ s.density))

pub narrows : (o : Options) (v : Float → Sample) (s : Search) (f d : Float) → Inner o v s → v s.density ≡ Ok (f, d) → within_of o.tolerance f ≡ false → Narrowed o v s (left_by s f)
unfolding narrowed_of
narrows o v s f d i e w = go (lt f +0) refl
  where
    r : Ranged s.bracket.lo s.bracket.hi
    r = i.ranged

    go : (b : Bool) → lt f +0 ≡ b → Narrowed o v s (pick b (record { lo = s.density; hi = s.bracket.hi }) (record { lo = s.bracket.lo; hi = s.density }))
    go true t =
        let here : Outside o v true s.density = record { f = f; derivative = d; is = e; outside = w; sign = t } in
        let l = strict (count s.density) (count s.bracket.hi) i.to (λ c. apart o v s.density s.bracket.hi here i.above (same s.density s.bracket.hi i.good r.high c)) in
        record {
          ranged = record { low = i.good; high = r.high; rises = l; least = omega (arith, r.least, i.from); most = r.most };
          first = le_trans i.first i.from;
          last = i.last;
          below = here;
          above = i.above;
          part = inl (refl, refl);
        }
    go false t =
        let here : Outside o v false s.density = record { f = f; derivative = d; is = e; outside = w; sign = t } in
        let l = strict (count s.bracket.lo) (count s.density) i.from (λ c. apart o v s.bracket.lo s.density i.below here (same s.bracket.lo s.density r.low i.good c)) in
        record {
          ranged = record { low = r.low; high = i.good; rises = l; least = r.least; most = le_trans i.to r.most };
          first = i.first;
          last = le_trans i.to i.last;
          below = i.below;
          above = here;
          part = inr (refl, refl);
        }

-- ---- a step that goes on
pub record Gone (o : Options) (v : Float → Sample) (s : Search) (x : Float) : Type 0 where
  pub f : Float
  pub derivative : Float
  pub verdict : v s.density ≡ Ok (f, derivative)
  pub goes : Goes o s f derivative x
  pub moved : moved_of s (v s.density) x ≡ moved_by s f x Interior
  pub narrowed : Narrowed o v s (left_by s f)
  pub shrunk : Shrunk (left_by s f).lo x (left_by s f).hi

pub steps_on : (o : Options) (v : Float → Sample) (s : Search) (x : Float) → Inner o v s → step_of o s (v s.density) ≡ Try x → Gone o v s x
unfolding step_of stage_of moved_of
steps_on o v s x i = go (v s.density) refl
  where
    go : (y : Sample) → v s.density ≡ y → step_of o s y ≡ Try x → Gone o v s x
    go (Err n) p e = cc
    go (Ok (f, d)) p e =
        let g = interior_try o s f d x (sym (ap (stage_of o s f d) i.stage) ∙ e) in
        let n = narrows o v s f d i p g.outside in
        record {
          f = f;
          derivative = d;
          verdict = p;
          goes = g;
          moved = ap (λ (y : Sample). moved_of s y x) p ∙ ap (moved_by s f x) i.stage;
          narrowed = n;
          shrunk = subst (λ (y : Float). Shrunk (left_by s f).lo y (left_by s f).hi) g.next (next_shrinks (left_by s f) s.density f d n.ranged g.apart);
        }

pub stays_inner : (o : Options) (v : Float → Sample) (s : Search) (x : Float) (i : Inner o v s) (g : Gone o v s x) → Inner o v (moved_of s (v s.density) x)
stays_inner o v s x i g = subst (λ (z : Search). Inner o v z) (sym g.moved) (unfold moved_by in record {
  stage = refl;
  ranged = g.narrowed.ranged;
  good = g.shrunk.good;
  from = le_of_lt g.shrunk.over;
  to = le_of_lt g.shrunk.under;
  first = g.narrowed.first;
  last = g.narrowed.last;
  below = g.narrowed.below;
  above = g.narrowed.above;
})
