-- What holds of its samples' refusals holds of a scan's. Assumes nothing.
use mathlib.Core.Bool.{Bool, true, false, ◌&&◌}
use mathlib.Core.List.{List}
use Prim.Native.Nat.{◌+◌, ◌-◌}
use lib.Ieee.{Float, nan, le}
use lib.ListN.{length, get_or}
use Rattle.std.specs.Prelude.{Result, Ok, Err, IfErr}
use Rattle.numerics.specs.Double.{+0, pick}
use Rattle.numerics.specs.Iterate.{range}
use Rattle.gerg_refusals.specs.declared.Refusal.{Refusal}
use Rattle.interval.specs.Interval.{middle_of}
use Rattle.gerg_scan_steps.specs.Answers.{mapped}
use Rattle.gerg_scan_steps.specs.Halving as halving
use Rattle.gerg_scan_steps.specs.Sample.{Sample}
use Rattle.gerg_scan_steps.specs.Scan as scan
use Rattle.gerg_scan_steps.specs.declared.Halving.{Halving}
use Rattle.gerg_scan_steps.specs.declared.Scanned.{Scanned}
use Rattle.gerg_scan_steps.proofs.Laws.Answers.{steps_keep}

module _ (v : Float → Sample) (Q : Refusal → Type 0) (each : (x : Float) → IfErr (v x) Q) where
  tried_refusal : (tolerance : Float) (h : Halving) (rho : Float) (s : Sample) → IfErr s Q → IfErr (halving.tried_of tolerance h rho s) Q
  unfolding halving.tried_of
  tried_refusal tolerance h rho (Ok (f, stiffness)) k = tt
  tried_refusal tolerance h rho (Err r) k = k

  halved_refusal : (tolerance : Float) (h : Halving) → IfErr (halving.halved_of v tolerance h) Q
  unfolding halving.halved_of
  halved_refusal tolerance h = go h.stopped
    where
      go : (q : Bool) → IfErr (pick q (Ok h) (halving.tried_of tolerance h (middle_of h.ends) (v (middle_of h.ends)))) Q
      go true = tt
      go false = tried_refusal tolerance h (middle_of h.ends) (v (middle_of h.ends)) (each (middle_of h.ends))

  crossing_refusal : (tolerance lo hi : Float) → IfErr (halving.crossing_of v tolerance lo hi) Q
  unfolding halving.crossing_of
  crossing_refusal tolerance lo hi = steps_keep (λ k h. Unit {0}) Q (λ k. halving.halved_of v tolerance) 100 (Ok (halving.unhalved lo hi)) tt (λ k h l p. halved_refusal tolerance h)

  crossed_refusal : (target current right : Float) (s : Scanned) → IfErr (scan.crossed_of v target current right s) Q
  unfolding scan.crossed_of
  crossed_refusal target current right s = go (le s.scan.left +0 && le +0 right) (halving.crossing_of v (halving.tolerance_of target) s.scan.previous current) (crossing_refusal (halving.tolerance_of target) s.scan.previous current)
    where
      go : (q : Bool) (c : Result Halving Refusal) → IfErr c Q → IfErr (pick q (mapped (λ h. scan.rooted_of h s) c) (Ok s)) Q
      go true (Ok h) k = tt
      go true (Err r) k = k
      go false c k = tt

  seen_refusal : (target current : Float) (s : Scanned) (x : Sample) → IfErr x Q → IfErr (scan.seen_of v target current s x) Q
  unfolding scan.seen_of
  seen_refusal target current s (Ok (right, stiffness)) k = go (scan.crossed_of v target current right (scan.changed (scan.noted_of current stiffness) s)) (crossed_refusal target current right (scan.changed (scan.noted_of current stiffness) s))
    where
      go : (c : Result Scanned Refusal) → IfErr c Q → IfErr (mapped (scan.changed (scan.moved_of current right)) c) Q
      go (Ok r) h = tt
      go (Err r) h = h
  seen_refusal target current s (Err r) k = k

  begun_refusal : (first : Float) (x : Sample) → IfErr x Q → IfErr (mapped scan.rootless (scan.begun_at first x)) Q
  unfolding scan.begun_at
  begun_refusal first (Ok (f, stiffness)) k = tt
  begun_refusal first (Err r) k = k

  pub scan_refusal : (target : Float) (grid : List Float) → IfErr (scan.scan_of v target grid) Q
  unfolding scan.scan_of scan.scan_step range
  scan_refusal target grid =
      steps_keep (λ k s. Unit {0}) Q (λ k. scan.scan_step v target (get_or grid (1 + k) nan)) (length grid - 1) (mapped scan.rootless (scan.begun_at (get_or grid 0 nan) (v (get_or grid 0 nan))))
      (begun_refusal (get_or grid 0 nan) (v (get_or grid 0 nan)) (each (get_or grid 0 nan)))
      (λ k s l p. seen_refusal target (get_or grid (1 + k) nan) s (v (get_or grid (1 + k) nan)) (each (get_or grid (1 + k) nan)))
