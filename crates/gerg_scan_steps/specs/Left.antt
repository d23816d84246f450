-- What steps leave where one of them refuses, and so what a scan leaves: all that it has found before.
use Rattle.std.specs.Prelude.{List, ◌-◌, ℕ, zero, suc, Float, length, get_or, Result, Ok, Err}
use Rattle.std.specs.Float.{nan}
use Rattle.std.specs.Float.Ieee.{neg}
use Rattle.numerics.specs.Double.{+0}
use Rattle.gerg_scan_steps.specs.Halving.{infinity}
use Rattle.gerg_scan_steps.specs.Sample.{Sample}
use Rattle.gerg_scan_steps.specs.Scan.{begun_at, noted_of, moved_of, rootless, changed, crossed_of, scan_step}
use Rattle.gerg_scan_steps.specs.declared.Scan.{Scan}
use Rattle.gerg_scan_steps.specs.declared.Scanned.{Scanned}

-- what comes later of what is accepted; where it is refused, what is there instead
abbrev pub later_or : {A B E : Type 0} → (A → B) → B → Result A E → B
later_or later instead (Ok a) = later a
later_or later instead (Err r) = instead

-- what n steps leave, from number k on, each of what the one before it made: no step comes after one that refuses, and `left` is what that one leaves
unfoldable pub left_by : {A E : Type 0} → (ℕ → A → Result A E) → (ℕ → A → A) → ℕ → ℕ → A → A
left_by step left k zero a = a
left_by step left k (suc n) a = later_or (left_by step left (suc k) n) (left k a) (step k a)

-- before any sample
unfoldable pub before : Float → Scan
before first = record { previous = first; left = +0; first_negative = infinity; last_negative = neg infinity }

-- what is there after a grid point, a refused one too: no root joins of a crossing that is refused, and nothing changes where the sample is
unfoldable pub seen_left : (Float → Sample) → Float → Float → Scanned → Sample → Scanned
seen_left v target current s (Ok (right, stiffness)) =
    changed (moved_of current right) (later_or (λ r. r) (changed (noted_of current stiffness) s) (crossed_of v target current right (changed (noted_of current stiffness) s)))
seen_left v target current s (Err r) = s

unfoldable pub step_left : (Float → Sample) → Float → Float → Scanned → Scanned
step_left v target current s = seen_left v target current s (v current)

-- what a scan leaves, a refused one too
unfoldable pub scan_left : (Float → Sample) → Float → List Float → Scanned
scan_left v target grid =
    later_or (λ s. left_by (λ i. scan_step v target (get_or grid i nan)) (λ i. step_left v target (get_or grid i nan)) 1 (length grid - 1) (rootless s))
    (rootless (before (get_or grid 0 nan))) (begun_at (get_or grid 0 nan) (v (get_or grid 0 nan)))
