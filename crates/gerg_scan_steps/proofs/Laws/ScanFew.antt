-- A scan finds at most as many roots as the grid has points, whatever the samples are. Assumes nothing.
use mathlib.Core.Path.{◌≡◌, sym}
use mathlib.Core.Bool.{Bool, true, false, ◌&&◌}
use mathlib.Core.List.{List}
use Prim.Native.Nat.{◌+◌, ◌-◌, ◌≤◌, zero-le}
use native.Mathlib.Omega.{arith}
use lib.Ieee.{Float, nan, le}
use lib.ListN.{length, get_or}
use Rattle.std.specs.Prelude.{Result, Ok, Err, IfOk}
use Rattle.std.proofs.lemmas.Result.{IfOk-at_ok, IfOk-weaker}
use Rattle.numerics.specs.Double.{+0, pick}
use Rattle.numerics.specs.Iterate.{range}
use Rattle.numerics.specs.Growing.{one_more, none_more}
use Rattle.gerg_refusals.specs.declared.Refusal.{Refusal}
use Rattle.gerg_scan_steps.specs.Answers.{mapped}
use Rattle.gerg_scan_steps.specs.Left.{later_or, left_by, before, seen_left, step_left, scan_left}
use Rattle.gerg_scan_steps.specs.Halving.{tolerance_of, crossing_of}
use Rattle.gerg_scan_steps.specs.Sample.{Sample}
use Rattle.gerg_scan_steps.specs.Scan.{begun_at, noted_of, rootless, changed, densities, apart, grown, rooted_of, moved_of, crossed_of, seen_of, scan_step, scan_of}
use Rattle.gerg_scan_steps.specs.declared.Halving.{Halving}
use Rattle.gerg_scan_steps.specs.declared.Scan.{Scan}
use Rattle.gerg_scan_steps.specs.declared.Scanned.{Scanned}
use Rattle.gerg_scan_steps.proofs.Laws.Answers.{steps_keep, left_keeps, match_ok}

module _ (v : Float → Sample) (target : Float) where
  rooted_more : (h : Halving) (s : Scanned) → length (rooted_of h s).roots.items ≤ length s.roots.items + 1
  unfolding rooted_of
  rooted_more h s = go (apart h.best.density (densities s.roots.items))
    where
      go : (a : Bool) → length (pick a (grown h.best s) s).roots.items ≤ length s.roots.items + 1
      go true = one_more s.roots.items h.best
      go false = none_more (length s.roots.items)

  crossed_more : (current right : Float) (s : Scanned) → IfOk (crossed_of v target current right s) (λ r. length r.roots.items ≤ length s.roots.items + 1)
  unfolding crossed_of
  crossed_more current right s = go (le s.scan.left +0 && le +0 right) (crossing_of v (tolerance_of target) s.scan.previous current)
    where
      go : (b : Bool) (c : Result Halving Refusal) → IfOk (pick b (mapped (λ h. rooted_of h s) c) (Ok s)) (λ r. length r.roots.items ≤ length s.roots.items + 1)
      go true (Ok h) = rooted_more h s
      go true (Err r) = tt
      go false c = none_more (length s.roots.items)

  seen_more : (current : Float) (s : Scanned) (x : Sample) → IfOk (seen_of v target current s x) (λ r. length r.roots.items ≤ length s.roots.items + 1)
  unfolding seen_of moved_of noted_of
  seen_more current s (Ok (right, stiffness)) = go (crossed_of v target current right (changed (noted_of current stiffness) s)) (crossed_more current right (changed (noted_of current stiffness) s))
    where
      go : (c : Result Scanned Refusal) → IfOk c (λ r. length r.roots.items ≤ length s.roots.items + 1) → IfOk (mapped (changed (moved_of current right)) c) (λ r. length r.roots.items ≤ length s.roots.items + 1)
      go (Ok r) h = h
      go (Err r) h = tt
  seen_more current s (Err r) = tt

  -- a step finds one root at most
  pub step_more : (current : Float) (s : Scanned) → IfOk (scan_step v target current s) (λ r. length r.roots.items ≤ length s.roots.items + 1)
  unfolding scan_step
  step_more current s = seen_more current s (v current)

  pub step_few : (current : Float) (s r : Scanned) → Ok r ≡ scan_step v target current s → length r.roots.items ≤ length s.roots.items + 1
  step_few current s r e = IfOk-at_ok (λ q. length q.roots.items ≤ length s.roots.items + 1) (sym e) (step_more current s)

  begun_none : (first : Float) (x : Sample) → IfOk (mapped rootless (begun_at first x)) (λ s. length s.roots.items ≤ 0)
  unfolding begun_at
  begun_none first (Ok (f, stiffness)) = omega arith
  begun_none first (Err r) = tt

  pub begun_few : (first : Float) (x : Sample) (s : Scanned) → Ok s ≡ mapped rootless (begun_at first x) → length s.roots.items ≤ 0
  begun_few first x s e = IfOk-at_ok (λ q. length q.roots.items ≤ 0) (sym e) (begun_none first x)

  pub scan_few : (grid : List Float) → IfOk (scan_of v target grid) (λ s. length s.roots.items ≤ length grid)
  unfolding scan_of range
  scan_few grid =
      IfOk-weaker (scan_of v target grid) _ _ (λ r g. omega arith)
      (steps_keep (λ k s. length s.roots.items ≤ k) (λ r. Unit {0}) (λ k. scan_step v target (get_or grid (1 + k) nan)) (length grid - 1) (mapped rootless (begun_at (get_or grid 0 nan) (v (get_or grid 0 nan)))) (begun_none (get_or grid 0 nan) (v (get_or grid 0 nan)))
      (λ k s l h. IfOk-weaker (scan_step v target (get_or grid (1 + k) nan) s) _ _ (λ r g. omega arith) (step_more (get_or grid (1 + k) nan) s)))

  -- ---- and a refused scan leaves no more
  seen_left_more : (current : Float) (s : Scanned) (x : Sample) → length (seen_left v target current s x).roots.items ≤ length s.roots.items + 1
  unfolding seen_left
  seen_left_more current s (Ok (right, stiffness)) = go (crossed_of v target current right (changed (noted_of current stiffness) s)) (crossed_more current right (changed (noted_of current stiffness) s))
    where
      go : (c : Result Scanned Refusal) → IfOk c (λ r. length r.roots.items ≤ length s.roots.items + 1) → length (later_or (λ r. r) (changed (noted_of current stiffness) s) c).roots.items ≤ length s.roots.items + 1
      go (Ok r) h = h
      go (Err r) h = none_more (length s.roots.items)
  seen_left_more current s (Err r) = none_more (length s.roots.items)

  step_left_more : (current : Float) (s : Scanned) → length (step_left v target current s).roots.items ≤ length s.roots.items + 1
  unfolding step_left
  step_left_more current s = seen_left_more current s (v current)

  pub left_few : (grid : List Float) → length (scan_left v target grid).roots.items ≤ length grid
  unfolding scan_left
  left_few grid = go (begun_at (get_or grid 0 nan) (v (get_or grid 0 nan)))
    where
      go :
          (b : Result Scan Refusal) →
          length (later_or (λ s. left_by (λ i. scan_step v target (get_or grid i nan)) (λ i. step_left v target (get_or grid i nan)) 1 (length grid - 1) (rootless s)) (rootless (before (get_or grid 0 nan))) b).roots.items ≤ length grid
      go (Ok s) =
          left_keeps (λ i. scan_step v target (get_or grid i nan)) (λ i. step_left v target (get_or grid i nan)) (λ j r. length r.roots.items + 1 ≤ j) (λ r. length r.roots.items ≤ length grid) (length grid - 1) 1 (rootless s) (omega arith)
          (λ j r l h. omega (arith, l, h))
          (λ j r l h.
          match_ok _ (scan_step v target (get_or grid j nan) r) (IfOk-weaker (scan_step v target (get_or grid j nan) r) _ _ (λ q g. omega (arith, h, g)) (step_more (get_or grid j nan) r))
          (omega (arith, l, h, step_left_more (get_or grid j nan) r)))
      go (Err r) = zero-le
