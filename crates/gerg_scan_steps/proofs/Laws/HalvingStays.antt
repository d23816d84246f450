-- The best point of a crossing lies between its ends, whatever the samples are. Assumes nothing.
use mathlib.Core.Path.{◌≡◌, refl, sym}
use mathlib.Core.Bool.{Bool, true, false}
use Prim.Native.Nat.{◌≤◌, ◌<◌}
use native.Mathlib.Nat.{le_trans, le_refl, le_of_lt}
use native.Mathlib.Omega.{arith}
use lib.Ieee.{Float, lt, le, eq}
use Rattle.std.specs.Prelude.{Ok, Err, IfOk}
use Rattle.std.proofs.lemmas.Result.{IfOk-weaker}
use Rattle.numerics.specs.Double.{+0, pick}
use Rattle.numerics.specs.Tests.{or_false}
use Rattle.numerics.specs.Spacing.{count, Good}
use Rattle.numerics.specs.SpacingRounded.{Ranged}
use Rattle.numerics.specs.MiddleLaws.{middle_good, middle_from, middle_to}
use Rattle.interval.specs.Interval as interval
use Rattle.interval.specs.Interval.{middle_of}
use Rattle.interval.specs.declared.Interval.{Interval}
use Rattle.gerg_scan_steps.specs.declared.Point.{Point}
use Rattle.gerg_scan_steps.specs.Halving.{size_of, narrowed_of, tried_of, halved_of, unhalved, crossing_of}
use Rattle.gerg_scan_steps.specs.Sample.{Sample}
use Rattle.gerg_scan_steps.specs.declared.Halving.{Halving}
use Rattle.gerg_grid.proofs.Laws.Rising.{strictly, unlike_count}
use Rattle.gerg_scan_steps.proofs.Laws.Answers.{steps_keep}

-- x is a double from a to b
pub record Between (a b x : Float) : Type 0 where
  pub good : Good x
  pub from : count a ≤ count x
  pub to : count x ≤ count b

-- the ends of a halving that is not at its end: they rise, within a and b
record Open (a b : Float) (i : Interval) : Type 0 where
  ranged : Ranged i.lo i.hi
  from : count a ≤ count i.lo
  to : count i.hi ≤ count b

record Stays (a b : Float) (h : Halving) : Type 0 where
  best : Between a b h.best.density
  going : h.stopped ≡ false → Open a b h.ends

-- the middle of an open halving
middle_between : (a b : Float) (i : Interval) → Open a b i → Between a b (middle_of i)
middle_between a b i o = record {
  good = middle_good i.lo i.hi o.ranged;
  from = le_trans o.from (middle_from i.lo i.hi o.ranged);
  to = le_trans (middle_to i.lo i.hi o.ranged) o.to;
}

picked : (a b : Float) (t : Bool) (x y : Point) → Between a b x.density → Between a b y.density → Between a b (pick t x y).density
picked a b true x y p q = p
picked a b false x y p q = q

-- the ends after a residual at the middle, which is neither of them
module _ (a b : Float) (i : Interval) (o : Open a b i) (low : eq (middle_of i) i.lo ≡ false) (high : eq (middle_of i) i.hi ≡ false) where
  mid : Between a b (middle_of i)
  mid = middle_between a b i o

  over : count i.lo < count (middle_of i)
  over = strictly i.lo (middle_of i) (middle_from i.lo i.hi o.ranged) (λ e. unlike_count (middle_of i) i.lo mid.good o.ranged.low low (sym e))

  under : count (middle_of i) < count i.hi
  under = strictly (middle_of i) i.hi (middle_to i.lo i.hi o.ranged) (unlike_count (middle_of i) i.hi mid.good o.ranged.high high)

  upper : Ranged (middle_of i) i.hi
  upper = record { low = mid.good; high = o.ranged.high; rises = under; least = omega (arith, o.ranged.least, over); most = o.ranged.most }

  lower : Ranged i.lo (middle_of i)
  lower = record { low = o.ranged.low; high = mid.good; rises = over; least = o.ranged.least; most = le_trans (le_of_lt under) o.ranged.most }

  sides : (f : Float) → Open a b (interval.narrowed_of i (middle_of i) f)
  unfolding interval.narrowed_of
  sides f = go (lt f +0)
    where
      go : (t : Bool) → Open a b (pick t (record { lo = middle_of i; hi = i.hi }) (record { lo = i.lo; hi = middle_of i }))
      go true = record { ranged = upper; from = mid.from; to = o.to }
      go false = record { ranged = lower; from = o.from; to = mid.to }

narrowed_stays : (a b tolerance f : Float) (h : Halving) → Stays a b h → Open a b h.ends → Stays a b (narrowed_of tolerance h (middle_of h.ends) f)
unfolding narrowed_of interval.on_end
narrowed_stays a b tolerance f h s o =
    let x = middle_of h.ends in
    record {
      best = picked a b (lt (size_of f) h.best.residual) (record { density = x; residual = size_of f }) h.best (middle_between a b h.ends o) s.best;
      going = λ e.
          let p = or_false (le (size_of f) tolerance) (interval.on_end h.ends x) e in
          let q = or_false (eq x h.ends.lo) (eq x h.ends.hi) p.1 in
          sides a b h.ends o q.0 q.1 f;
    }

tried_stays : (a b tolerance : Float) (h : Halving) (v : Sample) → Stays a b h → Open a b h.ends → IfOk (tried_of tolerance h (middle_of h.ends) v) (Stays a b)
unfolding tried_of
tried_stays a b tolerance h (Ok (f, stiffness)) s o = narrowed_stays a b tolerance f h s o
tried_stays a b tolerance h (Err r) s o = tt

halved_stays : (v : Float → Sample) (a b tolerance : Float) (h : Halving) → Stays a b h → IfOk (halved_of v tolerance h) (Stays a b)
unfolding halved_of
halved_stays v a b tolerance h s = go h.stopped refl
  where
    go : (t : Bool) → h.stopped ≡ t → IfOk (pick t (Ok h) (tried_of tolerance h (middle_of h.ends) (v (middle_of h.ends)))) (Stays a b)
    go true e = s
    go false e = tried_stays a b tolerance h (v (middle_of h.ends)) s (s.going e)

-- the best point of a crossing
pub crossing_between : (v : Float → Sample) (tolerance lo hi : Float) → Ranged lo hi → IfOk (crossing_of v tolerance lo hi) (λ h. Between lo hi h.best.density)
unfolding crossing_of unhalved
crossing_between v tolerance lo hi r =
    IfOk-weaker (crossing_of v tolerance lo hi) (Stays lo hi) _ (λ h s. s.best)
    (steps_keep (λ k. Stays lo hi) (λ r. Unit {0}) (λ k. halved_of v tolerance) 100 (Ok (unhalved lo hi))
    (record { best = record { good = r.low; from = le_refl (count lo); to = le_of_lt r.rises }; going = λ e. record { ranged = r; from = le_refl (count lo); to = le_refl (count hi) } })
    (λ k h l s. halved_stays v lo hi tolerance h s))
